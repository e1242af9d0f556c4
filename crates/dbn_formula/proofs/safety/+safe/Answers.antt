use Rattle.std.proofs.Common.{◌≡◌, [], ◌∷◌, ◌++◌, ◌+◌, ◌≤◌, ◌<◌, true, false, List, Bor, map, length, drop, take, sum_by, get_or, remove, arith, ap, sym, ◌∙◌, subst, refl, append-nil}
use Rattle.std.specs.List.{flat_map}
use Rattle.std.proofs.lemmas.List.{length-map, map-append, drop_all, take_more, take_all}
use Rattle.std.proofs.lemmas.List.Edits.{length-remove}
use Rattle.std.proofs.lemmas.List.Sums.{sum_by-remove, sum_by-drop_more}
use Rattle.std.proofs.lemmas.Result.{IfOk-weaker}
use Rattle.dbn_formula.specs.Free.{occurrences}
use Rattle.dbn_value.specs.declared.term.Var.{Var}
use Rattle.dbn_formula.specs.Safe.{safe, outside, all_in}
use Rattle.dbn_formula.specs.Conjuncts.{first_safe, turns, safe_position}
use Rattle.dbn_formula.specs.Rest.{Rest, Rests}
use Rattle.dbn_formula.specs.declared.formula.Formula.{Formula}
use Rattle.dbn_formula.specs.declared.formula.Formula.TheVariants.{And, Not, Exists}
use Rattle.dbn_formula.proofs.KnownLaws.{nothing_hidden}
use Rattle.dbn_formula.proofs.Weights.{weight}
use Rattle.dbn_formula.proofs.Turns.{map_remove, none_waits, turns_begin, same_turns, taken_waiting, none_more, none_there, taken_next, walk_ends}
use Rattle.dbn_formula.proofs.Trials.{rest_not, rest_exists, rest_or, rest_and, rests_self, rests_then, rests_length, rests_weigh, rests_position, rests_remove, rests_set, rests_begin, rests_over, rests_push, or_more, one_weighs, grown_one, within_bound, ahead_weighs, some_weight}
use Rattle.dbn_formula.proofs.Waiting.{none_were, taken_were, was_unsafe, position_next, needed_by_each}
use Rattle.std.proofs.lemmas.Bool.{ltb-true}
use Rattle.std.proofs.lemmas.Grind.{drop_more_same}
use Rattle.dbn_formula.proofs.safety.+safe.Goals as goal

abbrev now : Bor Formula → Formula
now f = f.now

-- ---- one formula

pub trial-returns-in_ok-trial-in-Not-clause-left : goal.trial-returns-in_ok-trial-in-Not-clause-left
trial-returns-in_ok-trial-in-Not-clause-left t c =
    let bound = c.args.bound.now in
    let left = c.in_ok-trial-in-Not.field-0.left in
    IfOk-weaker c.tried_denial.result _ _
    (λ made e. subst (Rest bound c.args.f.now) (sym e)
    (subst (λ f. Rest bound f (Not left)) (sym c.in-Not.is)
    (rest_not bound c.in-Not.part left (subst (λ f. Rest bound f left) c.get-in-Not.ensures c.in_ok-trial-in-Not.ensures.left))))
    c.tried_denial.ensures.left

pub trial-returns-in_ok-trial_inside-in-Exists-clause-left : goal.trial-returns-in_ok-trial_inside-in-Exists-clause-left
trial-returns-in_ok-trial_inside-in-Exists-clause-left t c =
    let bound = c.args.bound.now in
    let vars = c.in-Exists.vars in
    let left = c.in_ok-trial_inside-in-Exists.field-0.left in
    IfOk-weaker c.tried_choice.result _ _
    (λ made e. subst (Rest bound c.args.f.now) (sym e)
    (subst (λ f. Rest bound f (Exists vars left)) (sym c.in-Exists.is)
    (rest_exists bound vars c.in-Exists.body left
    (subst (λ f. Rest (outside vars bound) f left) c.get-in-Exists.ensures
    (subst (λ vs. Rest (outside vs bound) c.get-in-Exists.result.now left) c.as_slice-in-Exists.ensures c.in_ok-trial_inside-in-Exists.ensures.left)))))
    c.tried_choice.ensures.left

-- where the quantifier hides nothing that is bound
pub trial_inside-returns-clause-is_safe : goal.trial_inside-returns-clause-is_safe
trial_inside-returns-clause-is_safe t c =
    let same : outside c.args.vars.now c.args.bound.now ≡ c.args.bound.now = nothing_hidden c.args.vars.now c.args.bound.now (sym c.hides_bound.ensures ∙ c.if-hides_bound.false) in
    IfOk-weaker c.trial-2.result _ _ (λ tried e. e ∙ ap (safe c.args.body.now) (sym same)) c.trial-2.ensures.is_safe

pub trial_inside-returns-clause-left : goal.trial_inside-returns-clause-left
trial_inside-returns-clause-left t c =
    let same : outside c.args.vars.now c.args.bound.now ≡ c.args.bound.now = nothing_hidden c.args.vars.now c.args.bound.now (sym c.hides_bound.ensures ∙ c.if-hides_bound.false) in
    IfOk-weaker c.trial-2.result _ _ (λ tried rest. subst (λ xs. Rest xs c.args.body.now tried.left) (sym same) rest) c.trial-2.ensures.left

-- ---- a disjunction

pub any_tried-returns-clause-is_safe : goal.any_tried-returns-clause-is_safe
any_tried-returns-clause-is_safe t c =
    let parts = c.args.parts.now in
    let bound = c.args.bound.now in
    let needed = c.as_slice.result.now in
    let same : (more : List Var) → all_in needed (bound ++ more) ≡ all_in (flat_map occurrences parts) (bound ++ more) =
    λ more. ap (λ vs. all_in vs (bound ++ more)) c.as_slice.ensures ∙ c.in_ok-needed.ensures more in
    IfOk-weaker c.each_tried.result _ _ (λ tried e. e ∙ needed_by_each parts bound needed (flat_map occurrences parts) same) c.each_tried.ensures.is_safe

pub each_tried-loop-part-preserved : goal.each_tried-loop-part-preserved
each_tried-loop-part-preserved t c =
    let parts = c.args.parts.now in
    let i = c.loop-part.part-index in
    let part = c.part-item.result in
    let tried = c.in_ok-tried.tried in
    let more : take (i + 1) parts ≡ take i parts ++ part ∷ [] = take_more parts i part (omega arith) ∙ ap (λ (f : Formula). take i parts ++ f ∷ []) (sym c.part-item.is) in
    record {
      all_safe =
          or_more c.args.bound.now c.args.needed.now (take i parts) (take (i + 1) parts) part c.loop-part.is_safe (safe part c.args.bound.now)
          (all_in c.args.needed.now (c.args.bound.now ++ occurrences part)) tried.is_safe c.in_ok-tried.ensures.is_safe c.loop-part.invariant.all_safe refl refl more;
      lefts =
          rests_push c.args.bound.now (take (i + 1) parts) (take i parts) c.push.new.self c.loop-part.lefts part tried.left more c.in_ok-push.ensures.ok c.loop-part.invariant.lefts c.in_ok-tried.ensures.left;
    }

pub each_tried-returns-clause-left : goal.each_tried-returns-clause-left
each_tried-returns-clause-left t c =
    let parts = c.args.parts.now in
    rest_or c.args.bound.now parts c.loop-part.lefts
    (subst (λ fs. Rests c.args.bound.now fs c.loop-part.lefts) (take_all c.loop-part.part-index parts c.loop-part-test.false) c.loop-part.invariant.lefts)

-- ---- a conjunction

pub all_tried-returns-clause-is_safe : goal.all_tried-returns-clause-is_safe
all_tried-returns-clause-is_safe t c =
    none_waits now c.in_ok-turns.turns.waiting c.is_empty-is_safe.result c.args.parts.now c.args.bound.now c.is_empty-is_safe.ensures c.in_ok-turns.ensures.waiting

pub all_tried-returns-clause-left : goal.all_tried-returns-clause-left
all_tried-returns-clause-left t c =
    let made = c.in_ok-turns.turns in
    subst (Rest c.args.bound.now (And c.args.parts.now)) (sym c.in_ok-left.ensures)
    (rest_and c.args.bound.now c.args.parts.now (map now made.taken) (map now made.waiting) made.lefts c.in_ok-turns.ensures.taken c.in_ok-turns.ensures.waiting c.in_ok-turns.ensures.lefts)

pub in_turns-loop-part-init : goal.in_turns-loop-part-init
in_turns-loop-part-init t c =
    let parts = c.args.parts.now in
    record {
      same =
          same_turns (map now c.new.result) [] (map now c.new-2.result ++ parts) parts c.in_ok-copy_in.field-0 c.args.bound.now (ap (map now) c.new.ensures)
          (ap (λ ws. map now ws ++ parts) c.new-2.ensures) c.in_ok-copy_in.ensures
          ∙ turns_begin parts c.args.bound.now;
      none_safe = ap (λ ws. first_safe (map now ws) c.in_ok-copy_in.field-0) c.new-2.ensures;
      lefts = rests_begin now c.in_ok-copy_in.field-0 c.new-2.result c.new-3.result c.new-2.ensures c.new-3.ensures;
      grown =
          c.in_ok-copy_in.ensures ∙ sym (append-nil c.args.bound.now)
          ∙ ap (λ (ws : List (Bor Formula)). c.args.bound.now ++ flat_map occurrences (map now ws)) (sym c.new.ensures);
    }

pub in_turns-look_at-requires : goal.in_turns-look_at-requires
in_turns-look_at-requires t c =
    let parts = c.args.parts.now in
    let walked = c.loop-part.turns in
    let i = c.loop-part.part-index in
    let part = c.part-item.result in
    let a : sum_by weight walked.lefts + sum_by weight (drop i parts) ≤ sum_by weight parts =
    ahead_weighs now (map now walked.taken) walked.waiting walked.lefts (drop i parts) walked.bound parts c.args.bound.now c.loop-part.invariant.same c.loop-part.invariant.lefts in
    let b : sum_by weight (drop i parts) ≡ weight (get_or parts i part) + sum_by weight (drop (i + 1) parts) = sum_by-drop_more weight parts i part (omega arith) in
    let e : weight part ≡ weight (get_or parts i part) = ap weight c.part-item.is in
    (omega (arith, a, b, e), (c.loop-part.invariant.lefts, c.loop-part.invariant.none_safe))

pub in_turns-returns-clause-taken : goal.in_turns-returns-clause-taken
in_turns-returns-clause-taken t c =
    let parts = c.args.parts.now in
    let walked = c.loop-part.turns in
    ap (λ (made : List Formula × List Formula). made.0)
    (walk_ends (map now walked.taken) (map now walked.waiting) (drop c.loop-part.part-index parts) walked.bound (turns (length parts) parts c.args.bound.now) c.loop-part.invariant.same
    (drop_all c.loop-part.part-index parts c.loop-part-test.false) c.loop-part.invariant.none_safe)

pub in_turns-returns-clause-waiting : goal.in_turns-returns-clause-waiting
in_turns-returns-clause-waiting t c =
    let parts = c.args.parts.now in
    let walked = c.loop-part.turns in
    ap (λ (made : List Formula × List Formula). made.1)
    (walk_ends (map now walked.taken) (map now walked.waiting) (drop c.loop-part.part-index parts) walked.bound (turns (length parts) parts c.args.bound.now) c.loop-part.invariant.same
    (drop_all c.loop-part.part-index parts c.loop-part-test.false) c.loop-part.invariant.none_safe)

-- ---- the next part

pub look_at-take_waiting-requires : goal.look_at-take_waiting-requires
look_at-take_waiting-requires t c =
    let given = c.args.turns.now in
    let turn = c.take.new.self in
    let e : sum_by weight turn.lefts ≡ sum_by weight given.lefts = ap (sum_by weight) c.in_ok-take.ensures.lefts in (
      omega (arith, e, some_weight c.args.part.now),
      (
        rests_over given.bound turn.bound (map now turn.waiting) (map now given.waiting) turn.lefts given.lefts (within_bound given.bound turn.bound c.args.part.now c.in_ok-take.ensures.bound)
            (ap (map now) c.in_ok-take.ensures.waiting) c.in_ok-take.ensures.lefts c.requires.lefts,
        none_were (map now given.waiting) given.lefts given.bound turn.bound (occurrences c.args.part.now) turn.lefts c.requires.none_safe c.requires.lefts
            c.in_ok-take.ensures.bound c.in_ok-take.ensures.lefts,
      ),
    )

pub look_at-returns-then-tried-clause-same_turns : goal.look_at-returns-then-tried-clause-same_turns
look_at-returns-then-tried-clause-same_turns t c =
    let given = c.args.turns.now in
    let turn = c.take.new.self in
    let part = c.args.part.now in
    let here : safe part given.bound ≡ true = sym c.in_ok-tried.ensures.is_safe ∙ c.if-tried.true in
    IfOk-weaker c.take_waiting.result _ _
    (λ done same rest.
    same rest
    ∙ same_turns (map now turn.taken) (map now given.taken ++ part ∷ []) (map now turn.waiting ++ rest) (map now given.waiting ++ rest) turn.bound (given.bound ++ occurrences part)
    c.in_ok-take.ensures.taken (ap (λ ws. map now ws ++ rest) c.in_ok-take.ensures.waiting) c.in_ok-take.ensures.bound
    ∙ taken_next (map now given.taken) (map now given.waiting) rest given.bound part c.requires.none_safe here)
    c.take_waiting.ensures.same_turns

pub look_at-returns-clause-none_safe : goal.look_at-returns-clause-none_safe
look_at-returns-clause-none_safe t c =
    let given = c.args.turns.now in
    let part = c.args.part.now in
    let fails : safe part given.bound ≡ false = sym c.in_ok-tried.ensures.is_safe ∙ c.if-tried.false in
    let waits : map now c.push.new.self ≡ map now given.waiting ++ part ∷ [] = ap (map now) c.in_ok-push.ensures.ok ∙ map-append now given.waiting _ in
    IfOk-weaker c.push-2.result _ _
    (λ done e. ap (λ (fs : List Formula). first_safe fs given.bound) waits ∙ none_more (map now given.waiting) given.bound part c.requires.none_safe fails)
    c.push-2.ensures.ok

pub look_at-returns-clause-lefts : goal.look_at-returns-clause-lefts
look_at-returns-clause-lefts t c =
    let given = c.args.turns.now in
    let part = c.args.part.now in
    let left = c.in_ok-tried.tried.left in
    let waits : map now c.push.new.self ≡ map now given.waiting ++ part ∷ [] = ap (map now) c.in_ok-push.ensures.ok ∙ map-append now given.waiting _ in
    let rest : Rest given.bound part left = c.in_ok-tried.ensures.left in
    IfOk-weaker c.push-2.result _ _
    (λ done e. rests_push given.bound (map now c.push.new.self) (map now given.waiting) c.push-2.new.self given.lefts part left waits e c.requires.lefts rest)
    c.push-2.ensures.ok

-- ---- those that wait

pub take_waiting-returns-then-len-at-clause-none_safe : goal.take_waiting-returns-then-len-at-clause-none_safe
take_waiting-returns-then-len-at-clause-none_safe t c =
    let waiting = c.loop-at.turns.waiting in
    let lefts = c.loop-at.turns.lefts in
    let bound = c.loop-at.turns.bound in
    let at : c.in_ok-at.at ≡ safe_position (map now waiting) bound =
    c.in_ok-at.ensures.position ∙ rests_position bound (map now waiting) lefts c.loop-at.invariant.lefts in
    let long : length (map now waiting) ≡ length waiting = length-map waiting now in
    none_there (map now waiting) bound (omega (arith, at, long, c.len.ensures, c.if-len-at.true))

pub take_waiting-returns-then-len-at-clause-lefts : goal.take_waiting-returns-then-len-at-clause-lefts
take_waiting-returns-then-len-at-clause-lefts t c =
    let waiting = c.loop-at.turns.waiting in
    let lefts = c.loop-at.turns.lefts in
    let bound = c.loop-at.turns.bound in
    let after = c.first_safe_left.new.lefts in
    let tried : Rests bound lefts after = c.in_ok-at.ensures.lefts in
    rests_then bound (map now waiting) lefts after c.loop-at.invariant.lefts tried

pub take_waiting-remove-requires : goal.take_waiting-remove-requires
take_waiting-remove-requires t c =
    let waiting = c.loop-at.turns.waiting in
    let lefts = c.loop-at.turns.lefts in
    let bound = c.loop-at.turns.bound in
    let after = c.first_safe_left.new.lefts in
    let tried : Rests bound lefts after = c.in_ok-at.ensures.lefts in
    let long : length (map now waiting) ≡ length waiting = length-map waiting now in
    let same : length after ≡ length (map now waiting) = rests_length bound (map now waiting) after (rests_then bound (map now waiting) lefts after c.loop-at.invariant.lefts tried) in
    omega (arith, long, same, c.len.ensures, c.if-len-at.false)

pub take_waiting-loop-at-smaller : goal.take_waiting-loop-at-smaller
take_waiting-loop-at-smaller t c =
    let waiting = c.loop-at.turns.waiting in
    let at = c.in_ok-at.at in
    let a : length c.take.new.self.waiting ≡ length (remove waiting at) = ap length (c.in_ok-take.ensures.waiting ∙ c.remove-part.ensures.rest) in
    let b : length (remove waiting at) + 1 ≡ length waiting = length-remove waiting at (omega (arith, c.len.ensures, c.if-len-at.false)) in
    omega (arith, a, b)

pub take_waiting-loop-at-preserved : goal.take_waiting-loop-at-preserved
take_waiting-loop-at-preserved t c =
    let waiting = c.loop-at.turns.waiting in
    let lefts = c.loop-at.turns.lefts in
    let bound = c.loop-at.turns.bound in
    let after = c.first_safe_left.new.lefts in
    let tried : Rests bound lefts after = c.in_ok-at.ensures.lefts in
    let taken = c.loop-at.turns.taken in
    let turn = c.take.new.self in
    let part = c.remove-part.result in
    let at = c.in_ok-at.at in
    let both : Rests bound (map now waiting) after = rests_then bound (map now waiting) lefts after c.loop-at.invariant.lefts tried in
    let first : at ≡ safe_position (map now waiting) bound =
    c.in_ok-at.ensures.position ∙ rests_position bound (map now waiting) lefts c.loop-at.invariant.lefts in
    let fewer : turn.waiting ≡ remove waiting at = c.in_ok-take.ensures.waiting ∙ c.remove-part.ensures.rest in
    let left : turn.lefts ≡ remove after at = c.in_ok-take.ensures.lefts ∙ c.remove.ensures.rest in
    record {
      same = λ rest.
          same_turns (map now turn.taken) (map now taken ++ part.now ∷ []) (map now turn.waiting ++ rest) (map now (remove waiting at) ++ rest) turn.bound (bound ++ occurrences part.now)
          c.in_ok-take.ensures.taken (ap (λ ws. map now ws ++ rest) fewer) c.in_ok-take.ensures.bound
          ∙ taken_waiting now (map now taken) waiting rest bound at part first c.remove-part.ensures.item
          ∙ c.loop-at.invariant.same rest;
      lefts =
          rests_over bound turn.bound (map now turn.waiting) (remove (map now waiting) at) turn.lefts (remove after at) (within_bound bound turn.bound part.now c.in_ok-take.ensures.bound)
          (ap (map now) fewer ∙ map_remove now waiting at) left (rests_remove bound (map now waiting) after at both);
      grown = λ given e. grown_one given bound turn.bound (map now taken) (map now turn.taken) part.now (c.loop-at.invariant.grown given e) c.in_ok-take.ensures.bound c.in_ok-take.ensures.taken;
      lighter =
          let long : length (map now waiting) ≡ length waiting = length-map waiting now in
          let same : length after ≡ length (map now waiting) = rests_length bound (map now waiting) after both in
          let below : at < length after = omega (arith, long, same, c.len.ensures, c.if-len-at.false) in
          let a : sum_by weight turn.lefts ≡ sum_by weight (remove after at) = ap (sum_by weight) left in
          let b : sum_by weight (remove after at) + weight (get_or after at part.now) ≡ sum_by weight after = sum_by-remove weight after at part.now below in
          let d : sum_by weight after ≤ sum_by weight lefts = rests_weigh bound lefts after tried in
          omega (arith, a, b, d, c.loop-at.invariant.lighter);
      were_unsafe =
          taken_were after turn.lefts bound turn.bound (occurrences part.now) at
          (c.in_ok-at.ensures.position ∙ sym (rests_position bound lefts after tried)) left c.in_ok-take.ensures.bound;
    }

-- ---- the first safe one

pub first_safe_left-loop-at-init : goal.first_safe_left-loop-at-init
first_safe_left-loop-at-init t c = record { position = omega arith; lefts = rests_self c.args.bound.now c.args.lefts.now; long = refl; ahead = refl }

pub first_safe_left-is_safe_now-requires : goal.first_safe_left-is_safe_now-requires
first_safe_left-is_safe_now-requires t c =
    let bound = c.args.bound.now in
    let given = c.args.lefts.now in
    let lefts = c.loop-at.lefts in
    let at = c.loop-at.at in
    let below : at < length lefts = omega (arith, c.loop-at.invariant.long, c.loop-at-test.true, c.len-at-end.ensures) in
    let lighter : sum_by weight lefts ≤ sum_by weight given = rests_weigh bound given lefts c.loop-at.invariant.lefts in (
      omega (arith, lighter),
      (
        below,
        λ e. was_unsafe given lefts at c.args.known c.bind.new.bound (occurrences c.args.last.now) c.new-fresh.result bound below c.loop-at.invariant.long c.loop-at.invariant.ahead
            c.in_ok-bind.ensures c.new-fresh.ensures (ltb-true at c.args.known e) c.requires,
      ),
    )

pub first_safe_left-loop-at-preserved : goal.first_safe_left-loop-at-preserved
first_safe_left-loop-at-preserved t c =
    let bound = c.args.bound.now in
    let given = c.args.lefts.now in
    let lefts = c.loop-at.lefts in
    let at = c.loop-at.at in
    let after = c.is_safe_now.new.lefts in
    let below : at < length lefts = omega (arith, c.loop-at.invariant.long, c.loop-at-test.true, c.len-at-end.ensures) in
    let fails : safe (get_or lefts at (And [])) bound ≡ false = sym c.in_ok-is_safe_now.ensures.is_safe ∙ c.if-branch.false in
    let kept : Rests bound given after = rests_then bound given lefts after c.loop-at.invariant.lefts c.in_ok-is_safe_now.ensures.lefts in
    record {
      position = position_next lefts after at (safe_position given bound) (And []) bound below c.loop-at.invariant.position fails c.in_ok-is_safe_now.ensures.others;
      lefts = kept;
      long = rests_length bound given after kept;
      ahead = c.in_ok-is_safe_now.ensures.others ∙ drop_more_same lefts given at c.loop-at.invariant.ahead;
    }

pub first_safe_left-returns-then-branch-clause-lefts : goal.first_safe_left-returns-then-branch-clause-lefts
first_safe_left-returns-then-branch-clause-lefts t c =
    rests_then c.args.bound.now c.args.lefts.now c.loop-at.lefts c.is_safe_now.new.lefts c.loop-at.invariant.lefts c.in_ok-is_safe_now.ensures.lefts

-- ---- one of them

pub is_safe_now-returns-then-stays_unsafe-clause-lefts : goal.is_safe_now-returns-then-stays_unsafe-clause-lefts
is_safe_now-returns-then-stays_unsafe-clause-lefts t c = rests_self c.args.bound.now c.args.lefts.now

pub is_safe_now-returns-clause-lefts : goal.is_safe_now-returns-clause-lefts
is_safe_now-returns-clause-lefts t c =
    let bound = c.args.bound.now in
    let lefts = c.args.lefts.now in
    let looked = c.index-as_slice-at-2.result in
    let left = c.in_ok-tried.tried.left in
    let here : looked ≡ get_or lefts c.args.at looked = c.index-as_slice-at-2.is ∙ ap (λ fs. get_or fs c.args.at looked) c.as_slice-2.ensures in
    subst (Rests bound lefts) (sym c.set.ensures)
    (rests_set bound lefts lefts c.args.at looked left (rests_self bound lefts) c.requires.in_range (subst (λ f. Rest bound f left) here c.in_ok-tried.ensures.left))

pub is_safe_now-trial-requires : goal.is_safe_now-trial-requires
is_safe_now-trial-requires t c =
    let lefts = c.args.lefts.now in
    let looked = c.index-as_slice-at-2.result in
    let here : looked ≡ get_or lefts c.args.at looked = c.index-as_slice-at-2.is ∙ ap (λ fs. get_or fs c.args.at looked) c.as_slice-2.ensures in
    let less : weight looked ≤ sum_by weight lefts = one_weighs c.args.bound.now lefts lefts c.args.at looked (rests_self c.args.bound.now lefts) c.requires.in_range here in
    (omega (arith, less), tt)
