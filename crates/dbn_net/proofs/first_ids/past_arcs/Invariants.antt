use Rattle.std.proofs.Common.{◌≡◌, ◌≤◌, ◌^◌, take}
use Rattle.dbn_net.specs.Values.{arc_constants, past_ids}
use Rattle.dbn_net.proofs.first_ids.past_arcs.Given as goal

abbrev pub invariant-loop-arc : goal.invariant-loop-arc
invariant-loop-arc l = record { value : l.next ≡ past_ids (arc_constants (take l.arc-index l.arcs)); small : l.next ≤ 2 ^ 62 }
