use Rattle.std.proofs.Common.{◌≡◌, ◌≤◌, ◌^◌, take}
use Rattle.dbn_formula.specs.Answers.{values_in}
use Rattle.dbn_net.specs.Values.{past_ids}
use Rattle.dbn_net.proofs.first_ids.past_instance.Given as goal

abbrev pub invariant-loop-rel : goal.invariant-loop-rel
invariant-loop-rel l = record { value : l.next ≡ past_ids (values_in (take l.rel l.instance)); small : l.next ≤ 2 ^ 62 }
