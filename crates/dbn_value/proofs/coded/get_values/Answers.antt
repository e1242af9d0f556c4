-- Each cell is the cell of a value.
use Rattle.dbn_value.proofs.CodingLaws.{cell_at}
use Rattle.dbn_value.proofs.coded.get_values.Goals as goal

pub get-requires : goal.get-requires
get-requires g c = cell_at (g.P.Coder.cell_of c.args.coder.now) c.requires.0 c.args.cells.now c.loop-cell.cell-index c.cell-item.result c.requires.1 c.loop-cell-test.true c.cell-item.is
