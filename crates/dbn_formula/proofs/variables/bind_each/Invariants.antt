use Rattle.std.proofs.Common.{◌≡◌, ◌++◌, map, take}
use Rattle.dbn_formula.proofs.variables.bind_each.Given as goal

abbrev pub invariant-loop-var : goal.invariant-loop-var
invariant-loop-var l = l.bound ≡ l.fn.bound ++ map (λ x. x.now) (take l.var-index l.vars)
