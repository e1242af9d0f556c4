use Rattle.std.proofs.Common.{◌≡◌, ◌-◌}
use Rattle.dbn_codec.specs.Reading.{members_at}
use Rattle.dbn_codec.proofs.Loops.{with_front}
use Rattle.dbn_codec.proofs.decoding.members_at.Given as goal

abbrev pub invariant-loop : goal.invariant-loop
invariant-loop l = with_front l.members (members_at (l.count - l.counter) l.shapes l.rest) ≡ members_at l.count l.shapes l.bytes
