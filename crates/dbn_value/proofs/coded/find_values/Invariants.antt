use Rattle.std.proofs.Common.{◌≡◌, take, Some}
use Rattle.dbn_value.specs.Coding.{cells_of}
use Rattle.dbn_value.proofs.coded.find_values.Given as goal

abbrev pub invariant-loop-value : goal.invariant-loop-value
invariant-loop-value g l = cells_of (g.P.Coder.cell_of l.coder) (take l.value-index l.row) ≡ Some l.cells.items
