use Rattle.std.proofs.Common.{◌≡◌, ◌≤◌, ◌^◌, take}
use Rattle.std.specs.List.{flat_map}
use Rattle.dbn_net.specs.Values.{past_ids}
use Rattle.dbn_reader.proofs.IdLaws.{item_values}
use Rattle.dbn_reader.proofs.ids.+ids.Given as goal

abbrev pub invariant-next_of-loop-one : goal.invariant-next_of-loop-one
invariant-next_of-loop-one l = record { value : l.next ≡ past_ids (flat_map item_values (take l.one-index l.list)); small : l.next ≤ 2 ^ 62 }
