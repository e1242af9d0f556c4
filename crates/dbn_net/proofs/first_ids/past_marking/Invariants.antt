use Rattle.std.proofs.Common.{◌≡◌, ◌≤◌, ◌^◌, take}
use Rattle.dbn_net.specs.Values.{token_values, past_ids}
use Rattle.dbn_net.proofs.first_ids.past_marking.Given as goal

abbrev pub invariant-loop-place : goal.invariant-loop-place
invariant-loop-place l = record { value : l.next ≡ past_ids (token_values (take l.place l.marking)); small : l.next ≤ 2 ^ 62 }
