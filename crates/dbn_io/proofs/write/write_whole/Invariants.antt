use Rattle.std.proofs.Common.{◌≡◌, length}
use Rattle.dbn_io.proofs.Writes.{Written}
use Rattle.dbn_model.specs.Content.{SameTold}
use Rattle.dbn_io.proofs.write.write_whole.Given as goal

abbrev pub invariant-pieces : goal.invariant-pieces
invariant-pieces g l = record {
  written : Written (g.S.Sink.taken l.initial.sink) (g.S.Sink.taken l.sink) l.bytes l.rest;
  told : SameTold (g.S.Sink.taken l.initial.sink) (g.S.Sink.taken l.sink);
  later : g.S.Sink.faults l.sink ≡ g.S.Sink.faults l.initial.sink;
}

abbrev pub decreases-pieces : goal.decreases-pieces
decreases-pieces g l = length l.rest
