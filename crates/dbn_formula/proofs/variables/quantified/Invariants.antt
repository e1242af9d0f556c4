use Rattle.std.proofs.Common.{◌≡◌, map, take}
use Rattle.dbn_formula.proofs.variables.quantified.Given as goal

abbrev pub invariant-loop-var : goal.invariant-loop-var
invariant-loop-var l = l.names ≡ map (λ x. x.0) (take l.var-index l.vars)
