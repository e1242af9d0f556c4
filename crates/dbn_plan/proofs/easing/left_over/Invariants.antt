use Rattle.std.proofs.Common.{◌≡◌, take}
use Rattle.dbn_plan.specs.Easing.{left_over}
use Rattle.dbn_plan.proofs.easing.left_over.Given as goal

abbrev pub invariant-loop-part : goal.invariant-loop-part
invariant-loop-part l = l.left ≡ left_over l.equations.keys (take l.part-index l.parts)
