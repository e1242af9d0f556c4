use Rattle.std.proofs.Common.{◌≡◌, ◌+◌, ◌++◌, map, take, drop, sum_by}
use Rattle.dbn_formula.specs.Safe.{arranged}
use Rattle.dbn_formula.specs.Conjuncts.{arranged_along}
use Rattle.dbn_formula.proofs.Weights.{weight}
use Rattle.dbn_formula.proofs.arranging.+arranged.Given as goal

abbrev pub decreases-arranged_at : goal.decreases-arranged_at
decreases-arranged_at l = weight l.f.now

abbrev pub decreases-arranged_inside : goal.decreases-arranged_inside
decreases-arranged_inside l = weight l.body.now + 1

abbrev pub decreases-add_arranged : goal.decreases-add_arranged
decreases-add_arranged l = sum_by weight l.parts.now + 1

abbrev pub decreases-in_order : goal.decreases-in_order
decreases-in_order l = sum_by weight l.parts.now + 3

abbrev pub decreases-add_in_turns : goal.decreases-add_in_turns
decreases-add_in_turns l = sum_by (λ f. weight f.now) l.taken.now + sum_by (λ f. weight f.now) l.waiting.now + 2

abbrev pub decreases-add_waiting : goal.decreases-add_waiting
decreases-add_waiting l = sum_by (λ f. weight f.now) l.parts.now + 1

abbrev pub invariant-add_arranged-loop-part : goal.invariant-add_arranged-loop-part
invariant-add_arranged-loop-part l = l.out ≡ l.fn.out ++ map (λ g. arranged g l.bound) (take l.part-index l.parts)

abbrev pub invariant-add_in_turns-loop-part : goal.invariant-add_in_turns-loop-part
invariant-add_in_turns-loop-part l =
    l.out ++ arranged_along (map (λ f. f.now) (drop l.part-index l.taken)) (map (λ f. f.now) l.waiting) l.bound
    ≡ l.fn.out ++ arranged_along (map (λ f. f.now) l.taken) (map (λ f. f.now) l.waiting) l.fn.bound

abbrev pub invariant-add_waiting-loop-part : goal.invariant-add_waiting-loop-part
invariant-add_waiting-loop-part l = l.out ≡ l.fn.out ++ map (λ g. arranged g.now l.bound) (take l.part-index l.parts)
