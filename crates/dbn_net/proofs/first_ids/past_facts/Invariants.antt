use Rattle.std.proofs.Common.{◌≡◌, ◌≤◌, ◌^◌, take}
use Rattle.dbn_net.specs.Values.{fact_constants, past_ids}
use Rattle.dbn_net.proofs.first_ids.past_facts.Given as goal

abbrev pub invariant-loop-pattern : goal.invariant-loop-pattern
invariant-loop-pattern l = record { value : l.next ≡ past_ids (fact_constants (take l.pattern-index l.patterns)); small : l.next ≤ 2 ^ 62 }
