use Rattle.std.proofs.Common.{◌≡◌, map, take}
use Rattle.dbn_value.specs.declared.term.Term.TheVariants as term
use Rattle.dbn_formula.proofs.safety.as_terms.Given as goal

abbrev pub invariant-loop-var : goal.invariant-loop-var
invariant-loop-var l = l.terms ≡ map term.Var (take l.var-index l.vars)
