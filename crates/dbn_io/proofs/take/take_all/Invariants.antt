use Rattle.std.proofs.Common.{◌≡◌, ◌+◌, ◌-◌, ◌≤◌, min, length, vec_len}
use Rattle.std.specs.Io.KnownBytes.{Consumes}
use Rattle.dbn_model.specs.Content.{SameTold}
use Rattle.dbn_io.proofs.take.take_all.Given as goal

abbrev pub invariant-pieces : goal.invariant-pieces
invariant-pieces g l = record {
  taken : Consumes (g.S.Source.left l.initial.source) (g.S.Source.left l.source) l.bytes.items;
  told : SameTold (g.S.Source.left l.initial.source) (g.S.Source.left l.source);
  later : g.S.Source.faults l.source ≡ g.S.Source.faults l.initial.source;
  most : length l.bytes.items ≤ l.most_len;
  room : min 65536 (l.most_len - length l.bytes.items + 1) ≤ vec_len l.piece;
  same : l.most_len ≡ l.most;
}

abbrev pub decreases-pieces : goal.decreases-pieces
decreases-pieces g l = l.most_len + 1 - length l.bytes.items
