use Rattle.std.proofs.Common.{◌≡◌, map, take}
use Rattle.dbn_plan.specs.Easing.{eased_part}
use Rattle.dbn_plan.proofs.easing.eased_parts.Given as goal

abbrev pub invariant-loop-part : goal.invariant-loop-part
invariant-loop-part l = l.made ≡ map (eased_part l.equations.keys) (take l.part-index l.parts)
