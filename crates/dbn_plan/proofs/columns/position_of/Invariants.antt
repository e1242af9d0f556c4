use Rattle.std.proofs.Common.{◌≡◌, drop}
use Rattle.dbn_plan.specs.Columns.{position}
use Rattle.dbn_plan.proofs.ColumnLaws.{shifted}
use Rattle.dbn_plan.proofs.columns.position_of.Given as goal

abbrev pub invariant-loop-i : goal.invariant-loop-i
invariant-loop-i l = position l.labels l.x ≡ shifted l.i (position (drop l.i l.labels) l.x)
