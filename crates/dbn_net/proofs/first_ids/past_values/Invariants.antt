use Rattle.std.proofs.Common.{◌≡◌, ◌≤◌, ◌^◌, take}
use Rattle.dbn_net.specs.Values.{past_ids}
use Rattle.dbn_net.proofs.first_ids.past_values.Given as goal

abbrev pub invariant-loop-value : goal.invariant-loop-value
invariant-loop-value l = record { value : l.next ≡ past_ids (take l.value-index l.values); small : l.next ≤ 2 ^ 62 }
