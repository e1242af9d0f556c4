use Rattle.std.proofs.Common.{◌≡◌, ◌≤◌, ◌^◌, take}
use Rattle.std.specs.List.{flat_map}
use Rattle.dbn_net.specs.Values.{constants_of, past_ids}
use Rattle.dbn_net.proofs.first_ids.past_reads.Given as goal

abbrev pub invariant-loop-read : goal.invariant-loop-read
invariant-loop-read l = record { value : l.next ≡ past_ids (flat_map (λ r. constants_of r.terms) (take l.read-index l.reads)); small : l.next ≤ 2 ^ 62 }
