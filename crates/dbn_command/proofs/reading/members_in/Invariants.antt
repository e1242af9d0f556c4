use Rattle.std.proofs.Common.{◌≡◌, length}
use Rattle.std.specs.Vec.Iter.{into_iter_items, into_iter_len}
use Rattle.dbn_net.specs.Tables.{transition_names}
use Rattle.dbn_command.specs.Gives.{each}
use Rattle.dbn_command.specs.Lines.{member_in}
use Rattle.dbn_command.proofs.Loops.{with_front}
use Rattle.dbn_command.proofs.reading.members_in.Given as goal

abbrev pub invariant-loop-call : goal.invariant-loop-call
invariant-loop-call l =
    (with_front l.members (each (member_in (transition_names l.net)) (into_iter_items l.call-iterator)) ≡ each (member_in (transition_names l.net)) l.fn.calls.items)
    × (into_iter_len l.call-iterator ≡ length (into_iter_items l.call-iterator))
