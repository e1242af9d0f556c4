use Rattle.std.proofs.Common.{◌≡◌, drop}
use Rattle.dbn_codec.specs.Reading.{row_at}
use Rattle.dbn_codec.proofs.Loops.{with_front}
use Rattle.dbn_codec.proofs.decoding.row_at.Given as goal

abbrev pub invariant-loop-column : goal.invariant-loop-column
invariant-loop-column l = with_front l.cells.items (row_at (drop l.column-index l.shape) l.rest) ≡ row_at l.shape l.bytes
