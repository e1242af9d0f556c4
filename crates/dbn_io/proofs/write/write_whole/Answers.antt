use Rattle.std.proofs.Common.{rules}
use Rattle.dbn_io.proofs.Writes.{written-more}
use Rattle.dbn_io.proofs.write.write_whole.Goals as goal

pub pieces-preserved : goal.pieces-preserved
pieces-preserved g c = record {
  written = rw c.split_at.ensures.back (written-more _ _ _ _ _ c.in-Ok.count c.pieces.invariant.written c.in-Ok.ensures.bytes);
  told = search rules;
  later = search rules;
}
