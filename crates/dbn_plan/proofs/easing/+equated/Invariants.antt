use Rattle.std.proofs.Common.{take}
use Rattle.std.specs.List.{flat_map}
use Rattle.dbn_plan.specs.Easing.{Adds, equated}
use Rattle.dbn_plan.proofs.easing.+equated.Given as goal

abbrev pub invariant-add_each-loop-part : goal.invariant-add_each-loop-part
invariant-add_each-loop-part l = Adds l.fn.equations.keys l.equations.keys (flat_map equated (take l.part-index l.parts))
