use Rattle.std.proofs.Common.{◌≡◌, ◌≤◌, ◌^◌, take}
use Rattle.dbn_net.specs.Values.{constants_of, past_ids}
use Rattle.dbn_net.proofs.first_ids.past_terms.Given as goal

abbrev pub invariant-loop-term : goal.invariant-loop-term
invariant-loop-term l = record { value : l.next ≡ past_ids (constants_of (take l.term-index l.terms)); small : l.next ≤ 2 ^ 62 }
