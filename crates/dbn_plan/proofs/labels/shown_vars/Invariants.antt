use Rattle.std.proofs.Common.{◌≡◌, take}
use Rattle.dbn_formula.specs.Free.{unhidden}
use Rattle.dbn_plan.proofs.labels.shown_vars.Given as goal

abbrev pub invariant-loop-x : goal.invariant-loop-x
invariant-loop-x l = l.some ≡ unhidden l.hidden (take l.x-index l.vars)
