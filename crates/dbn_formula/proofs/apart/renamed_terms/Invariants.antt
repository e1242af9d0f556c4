use Rattle.std.proofs.Common.{◌≡◌, map, take}
use Rattle.dbn_formula.specs.Apart.{renamed_term}
use Rattle.dbn_formula.specs.Naming.{named}
use Rattle.dbn_formula.proofs.apart.renamed_terms.Given as goal

abbrev pub invariant-loop-term : goal.invariant-loop-term
invariant-loop-term l = l.made ≡ map (renamed_term (named l.names)) (take l.term-index l.terms)
