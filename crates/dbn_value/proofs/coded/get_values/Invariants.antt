use Rattle.std.proofs.Common.{◌≡◌, map, take}
use Rattle.dbn_value.proofs.coded.get_values.Given as goal

abbrev pub invariant-loop-cell : goal.invariant-loop-cell
invariant-loop-cell g l = l.values.items ≡ map (g.P.Coder.value_of l.coder) (take l.cell-index l.cells)
