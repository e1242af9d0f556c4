use Rattle.std.proofs.Common.{◌≡◌, ◌+◌, [], drop, sum_by}
use Rattle.std.specs.List.{list_any, list_all}
use Rattle.dbn_value.specs.Scope.{bind}
use Rattle.dbn_formula.specs.Weight.{weight}
use Rattle.dbn_net.specs.Enabled.{guard_holds}
use Rattle.dbn_arc.proofs.guard.+guards.Given as goal

abbrev pub decreases-holds_at : goal.decreases-holds_at
decreases-holds_at l = weight l.guard.now

abbrev pub decreases-all_hold : goal.decreases-all_hold
decreases-all_hold l = sum_by weight l.parts.now + 1

abbrev pub decreases-any_holds : goal.decreases-any_holds
decreases-any_holds l = sum_by weight l.parts.now + 1

abbrev pub invariant-all_hold-loop-part : goal.invariant-all_hold-loop-part
invariant-all_hold-loop-part l = list_all (λ g. guard_holds g (bind l.scope l.row [])) l.parts ≡ list_all (λ g. guard_holds g (bind l.scope l.row [])) (drop l.part-index l.parts)

abbrev pub invariant-any_holds-loop-part : goal.invariant-any_holds-loop-part
invariant-any_holds-loop-part l = list_any (λ g. guard_holds g (bind l.scope l.row [])) l.parts ≡ list_any (λ g. guard_holds g (bind l.scope l.row [])) (drop l.part-index l.parts)
