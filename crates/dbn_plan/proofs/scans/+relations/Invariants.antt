use Rattle.std.proofs.Common.{◌≤◌, ◌+◌, length, map, take}
use Rattle.dbn_formula.specs.Size.{total, size}
use Rattle.dbn_plan.proofs.scans.+relations.Given as goal

abbrev pub invariant-add_all-loop-part : goal.invariant-add_all-loop-part
invariant-add_all-loop-part l = length l.out ≤ length l.fn.out + total (map size (take l.part-index l.parts))
