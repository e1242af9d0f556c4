use Rattle.std.proofs.Common.{◌≡◌, false, Contains}
use Rattle.dbn_model.specs.Content.{SameTold}
use Rattle.dbn_io.proofs.ReadingLaws.{ReadSoFar}
use Rattle.dbn_io.proofs.lines.next_line.Given as goal

abbrev pub invariant-pieces : goal.invariant-pieces
invariant-pieces g l = record {
  read : ReadSoFar l.line.bytes.items l.line.is_long l.initial.pieces l.pieces (g.S.Source.left l.initial.source) (g.S.Source.left l.source);
  first : Contains l.initial.pieces.held 10 → (l.source ≡ l.initial.source) × (l.pieces.held ≡ l.initial.pieces.held);
  told : SameTold (g.S.Source.left l.initial.source) (g.S.Source.left l.source);
  calm : g.S.Source.faults l.source ≡ g.S.Source.faults l.initial.source;
  going : l.pieces.at_end ≡ false;
}

abbrev pub decreases-pieces : goal.decreases-pieces
decreases-pieces g l = l.pieces.unread
