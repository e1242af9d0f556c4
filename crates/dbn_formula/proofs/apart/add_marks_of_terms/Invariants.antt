use Rattle.std.proofs.Common.{◌≡◌, ◌++◌, take}
use Rattle.std.specs.List.{flat_map}
use Rattle.dbn_formula.specs.Apart.{term_marks}
use Rattle.dbn_formula.proofs.apart.add_marks_of_terms.Given as goal

abbrev pub invariant-loop-term : goal.invariant-loop-term
invariant-loop-term l = l.out.items ≡ l.fn.out.items ++ flat_map term_marks (take l.term-index l.terms)
