use Rattle.std.proofs.Common.{◌≡◌, ◌++◌, map, take}
use Rattle.dbn_formula.proofs.variables.add_copies.Given as goal

abbrev pub invariant-loop-var : goal.invariant-loop-var
invariant-loop-var l = l.out ≡ l.fn.out ++ map (λ x. x.now) (take l.var-index l.vars)
