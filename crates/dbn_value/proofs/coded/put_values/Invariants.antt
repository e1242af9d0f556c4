use Rattle.std.proofs.Common.{◌≡◌, take, Some}
use Rattle.dbn_value.specs.Coding.{Extends, cells_of}
use Rattle.dbn_value.specs.Members.{In}
use Rattle.dbn_value.specs.declared.value.Value.{Value}
use Rattle.dbn_value.proofs.coded.put_values.Given as goal

abbrev pub invariant-loop-value : goal.invariant-loop-value
invariant-loop-value g l = record {
  cells : cells_of (g.P.Coder.cell_of l.coder) (take l.value-index l.row) ≡ Some l.cells.items;
  grows : Extends (g.P.Coder.cell_of l.fn.coder) (g.P.Coder.cell_of l.coder);
  alone : (v : Value) → (In v l.row → ⊥) → g.P.Coder.cell_of l.coder v ≡ g.P.Coder.cell_of l.fn.coder v;
}
