use Rattle.std.proofs.Common.{◌≡◌, take}
use Rattle.dbn_value.specs.Picked.{picked}
use Rattle.dbn_nodes.proofs.rows.cells_at.Given as goal

abbrev pub invariant-loop-column : goal.invariant-loop-column
invariant-loop-column g l = l.cells.items ≡ picked (take l.column-index l.columns) l.row
