use Rattle.std.proofs.Common.{◌≡◌, ◌≤◌, ◌^◌}
use Rattle.std.specs.Prelude.{max}
use Rattle.std.specs.List.{flat_map}
use Rattle.dbn_net.specs.Values.{past_ids}
use Rattle.dbn_net.proofs.first_ids.past_counts.Given as goal

abbrev pub invariant-loop-row : goal.invariant-loop-row
invariant-loop-row l = record { value : max l.next (past_ids (flat_map (λ counted. counted.0) l.row-iterator)) ≡ past_ids (flat_map (λ counted. counted.0) l.counts.entries); small : l.next ≤ 2 ^ 62 }
