use Rattle.std.proofs.Common.{◌≡◌, take}
use Rattle.dbn_value.specs.Picked.{picked}
use Rattle.dbn_nodes.specs.Stands.{firsts}
use Rattle.dbn_nodes.proofs.rows.left_key.Given as goal

abbrev pub invariant-loop-pair : goal.invariant-loop-pair
invariant-loop-pair g l = l.cells.items ≡ picked (firsts (take l.pair-index l.on)) l.row
