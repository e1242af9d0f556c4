use Rattle.std.proofs.Common.{◌≡◌, ◌++◌, map, take}
use Rattle.dbn_formula.specs.Free.{unhidden}
use Rattle.dbn_formula.proofs.variables.add_unhidden.Given as goal

abbrev pub invariant-loop-var : goal.invariant-loop-var
invariant-loop-var l = map (λ x. x.now) l.out ≡ map (λ x. x.now) l.fn.out ++ unhidden l.vars (map (λ x. x.now) (take l.var-index l.inner))
