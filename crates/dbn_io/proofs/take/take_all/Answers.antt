use Rattle.std.proofs.Common.{◌++◌, take, arith, length-append, length-take}
use Rattle.std.proofs.lemmas.Grind.{common_steps}
use Rattle.std.proofs.KnownBytes.{Consumes-trans}
use Rattle.dbn_io.proofs.take.take_all.Goals as goal

pub returns-then-count-most_len-clause-stopped : goal.returns-then-count-most_len-clause-stopped
returns-then-count-most_len-clause-stopped g c = (
  c.pieces.bytes.items ++ take c.in-Ok-read_piece.count c.read_piece.new.piece.items,
  Consumes-trans _ _ _ _ _ c.pieces.invariant.taken c.in-Ok-read_piece.ensures.bytes,
  grind (arith, common_steps),
)

pub returns-then-is_err-clause-stopped : goal.returns-then-is_err-clause-stopped
returns-then-is_err-clause-stopped g c = (
  c.pieces.bytes.items ++ take c.in-Ok-read_piece.count c.read_piece.new.piece.items,
  Consumes-trans _ _ _ _ _ c.pieces.invariant.taken c.in-Ok-read_piece.ensures.bytes,
  omega (arith, length-append c.pieces.bytes.items (take c.in-Ok-read_piece.count c.read_piece.new.piece.items), length-take c.in-Ok-read_piece.count c.read_piece.new.piece.items),
)
