use Rattle.std.proofs.Common.{◌≡◌, take}
use Rattle.dbn_formula.specs.Free.{unhidden}
use Rattle.dbn_formula.proofs.safety.outside.Given as goal

abbrev pub invariant-loop-var : goal.invariant-loop-var
invariant-loop-var l = l.kept ≡ unhidden l.vars (take l.var-index l.bound)
