use Rattle.std.proofs.Common.{◌≡◌, ◌≤◌, ◌^◌, take}
use Rattle.std.specs.List.{flat_map}
use Rattle.dbn_net.specs.Values.{constants_of, past_ids}
use Rattle.dbn_net.proofs.first_ids.past_patterns.Given as goal

abbrev pub invariant-loop-pattern : goal.invariant-loop-pattern
invariant-loop-pattern l = record { value : l.next ≡ past_ids (flat_map (λ p. constants_of p.terms) (take l.pattern-index l.patterns)); small : l.next ≤ 2 ^ 62 }
