use Rattle.std.proofs.Common.{◌≡◌, take}
use Rattle.dbn_value.specs.Picked.{picked}
use Rattle.dbn_nodes.specs.Stands.{seconds}
use Rattle.dbn_nodes.proofs.rows.right_key.Given as goal

abbrev pub invariant-loop-pair : goal.invariant-loop-pair
invariant-loop-pair g l = l.cells.items ≡ picked (seconds (take l.pair-index l.on)) l.row
