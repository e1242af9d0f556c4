use Rattle.std.proofs.Common.{◌≤◌, ◌≡◌, ◌+◌, ◌++◌, ◌&&◌, List, None, drop, take, length, map, sum_by}
use Rattle.std.specs.List.{list_all, flat_map}
use Rattle.dbn_value.specs.declared.term.Var.{Var}
use Rattle.dbn_formula.specs.Free.{occurrences}
use Rattle.dbn_formula.specs.Safe.{safe, all_in}
use Rattle.dbn_formula.specs.Conjuncts.{first_safe, safe_position, turns, turns_after}
use Rattle.dbn_formula.specs.Rest.{Rests}
use Rattle.dbn_formula.specs.Waiting.{WereUnsafe}
use Rattle.dbn_formula.specs.declared.formula.Formula.{Formula}
use Rattle.dbn_formula.proofs.Weights.{weight}
use Rattle.dbn_formula.proofs.safety.+safe.Given as goal

abbrev pub decreases-trial : goal.decreases-trial
decreases-trial l = weight l.f.now

abbrev pub decreases-trial_inside : goal.decreases-trial_inside
decreases-trial_inside l = weight l.body.now + 1

abbrev pub decreases-any_tried : goal.decreases-any_tried
decreases-any_tried l = sum_by weight l.parts.now + 3

abbrev pub decreases-each_tried : goal.decreases-each_tried
decreases-each_tried l = sum_by weight l.parts.now + 2

abbrev pub decreases-part_tried : goal.decreases-part_tried
decreases-part_tried l = weight l.part.now + 1

abbrev pub decreases-all_tried : goal.decreases-all_tried
decreases-all_tried l = sum_by weight l.parts.now + 5

abbrev pub decreases-in_turns : goal.decreases-in_turns
decreases-in_turns l = sum_by weight l.parts.now + 4

abbrev pub decreases-look_at : goal.decreases-look_at
decreases-look_at l = sum_by weight l.turns.now.lefts + weight l.part.now + 3

abbrev pub decreases-take_waiting : goal.decreases-take_waiting
decreases-take_waiting l = sum_by weight l.turns.now.lefts + 3

abbrev pub decreases-first_safe_left : goal.decreases-first_safe_left
decreases-first_safe_left l = sum_by weight l.lefts.now + 2

abbrev pub decreases-is_safe_now : goal.decreases-is_safe_now
decreases-is_safe_now l = sum_by weight l.lefts.now + 1

abbrev pub invariant-each_tried-loop-part : goal.invariant-each_tried-loop-part
invariant-each_tried-loop-part l = record {
  all_safe : l.is_safe ≡ list_all (λ f. safe f l.bound && all_in l.needed (l.bound ++ occurrences f)) (take l.part-index l.parts);
  lefts : Rests l.bound (take l.part-index l.parts) l.lefts;
}

-- those that wait and those to come are taken as all the parts are, and none that waits is safe
abbrev pub invariant-in_turns-loop-part : goal.invariant-in_turns-loop-part
invariant-in_turns-loop-part l = record {
  same : turns_after (map (λ f. f.now) l.turns.taken) (map (λ f. f.now) l.turns.waiting ++ drop l.part-index l.parts) l.turns.bound ≡ turns (length l.parts) l.parts l.bound;
  none_safe : first_safe (map (λ f. f.now) l.turns.waiting) l.turns.bound ≡ None;
  lefts : Rests l.turns.bound (map (λ f. f.now) l.turns.waiting) l.turns.lefts;
  grown : l.turns.bound ≡ l.bound ++ flat_map occurrences (map (λ f. f.now) l.turns.taken);
}

abbrev pub invariant-take_waiting-loop-at : goal.invariant-take_waiting-loop-at
invariant-take_waiting-loop-at l = record {
  same : (rest : List Formula) → turns_after (map (λ f. f.now) l.turns.taken) (map (λ f. f.now) l.turns.waiting ++ rest) l.turns.bound
      ≡ turns_after (map (λ f. f.now) l.fn.turns.taken) (map (λ f. f.now) l.fn.turns.waiting ++ rest) l.fn.turns.bound;
  lefts : Rests l.turns.bound (map (λ f. f.now) l.turns.waiting) l.turns.lefts;
  grown : (given : List Var) → l.fn.turns.bound ≡ given ++ flat_map occurrences (map (λ f. f.now) l.fn.turns.taken)
      → l.turns.bound ≡ given ++ flat_map occurrences (map (λ f. f.now) l.turns.taken);
  lighter : sum_by weight l.turns.lefts ≤ sum_by weight l.fn.turns.lefts;
  were_unsafe : WereUnsafe l.known l.turns.lefts (occurrences l.last) l.turns.bound;
}

abbrev pub decreases-take_waiting-loop-at : goal.decreases-take_waiting-loop-at
decreases-take_waiting-loop-at l = length l.turns.waiting

-- the tried ones before it are not safe
abbrev pub invariant-first_safe_left-loop-at : goal.invariant-first_safe_left-loop-at
invariant-first_safe_left-loop-at l = record {
  position : safe_position l.fn.lefts l.bound ≡ l.at + safe_position (drop l.at l.lefts) l.bound;
  lefts : Rests l.bound l.fn.lefts l.lefts;
  long : length l.lefts ≡ length l.fn.lefts;
  ahead : drop l.at l.lefts ≡ drop l.at l.fn.lefts;
}
