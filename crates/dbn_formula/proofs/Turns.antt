-- One turn of the safety test of a conjunction, and of putting it in order.
use Rattle.std.proofs.Common.{◌≡◌, ℕ, zero, suc, ◌+◌, ◌≤◌, Bool, true, false, cond, List, [], ◌∷◌, ◌++◌, refl, ap, sym, ◌∙◌, subst, Option, Some, None, length, arith, remove, slice_get, sum_by, map, append_assoc, append-nil}
use Rattle.std.specs.Option.{option_map, option_map_or}
use Rattle.std.specs.Bool.{IsTrue}
use Rattle.std.proofs.Math.Logic.{◌↔◌}
use Rattle.dbn_formula.specs.Solve.{is_empty}
use Rattle.std.proofs.lemmas.Option.{slice_get-map}
use Rattle.std.proofs.lemmas.List.Sums.{sum_by-cons, sum_by-append}
use Rattle.dbn_formula.proofs.Weights.{weight}
use Rattle.dbn_value.specs.declared.term.Var.{Var}
use Rattle.dbn_formula.specs.Free.{occurrences}
use Rattle.dbn_formula.specs.Safe.{safe, arranged}
use Rattle.dbn_formula.specs.Conjuncts.{first_safe, taken, order, safe_position, led, turns, turns_after, arranged_along}
use Rattle.dbn_formula.specs.declared.formula.Formula.{Formula}

-- a formula and those that stood beside it
abbrev pub Found : Type 0
Found = Formula × List Formula

-- ---- the first safe one, by its position

one_more : (n : ℕ) → n + 1 ≡ suc n
one_more n = omega arith

some_behind : (f g : Formula) (gs : List Formula) (found : Option Found) → found ≡ Some (g, gs) → option_map {U = Found} (λ (h : Found). (h.0, f ∷ h.1)) found ≡ Some (g, f ∷ gs)
some_behind f g gs found e = ap (option_map {U = Found} (λ (h : Found). (h.0, f ∷ h.1))) e

-- what stands at the first safe position is taken first
pub first_there : (fs : List Formula) (bound : List Var) (g : Formula) → slice_get fs (safe_position fs bound) ≡ Some g
    → first_safe fs bound ≡ Some (g, remove fs (safe_position fs bound))
first_there [] bound g = λ e. cc
first_there (f ∷ fs) bound g =
    elim (safe f bound) as (λ b. slice_get (f ∷ fs) (cond b 0 (safe_position fs bound + 1)) ≡ Some g
    → cond b (Some (f, fs)) (option_map {U = Found} (λ (h : Found). (h.0, f ∷ h.1)) (first_safe fs bound)) ≡ Some (g, remove (f ∷ fs) (cond b 0 (safe_position fs bound + 1)))) [
      | true ↦ λ e. cc
      | false ↦ λ e.
          subst (λ k. option_map {U = Found} (λ (h : Found). (h.0, f ∷ h.1)) (first_safe fs bound) ≡ Some (g, remove (f ∷ fs) k)) (sym (one_more (safe_position fs bound)))
          (some_behind f g (remove fs (safe_position fs bound)) (first_safe fs bound)
          (first_there fs bound g (subst (λ k. slice_get (f ∷ fs) k ≡ Some g) (one_more (safe_position fs bound)) e)))
    ]

none_behind : (f : Formula) (found : Option Found) → found ≡ None → option_map {U = Found} (λ (h : Found). (h.0, f ∷ h.1)) found ≡ None
none_behind f found e = ap (option_map {U = Found} (λ (h : Found). (h.0, f ∷ h.1))) e

pub none_there : (fs : List Formula) (bound : List Var) → length fs ≤ safe_position fs bound → first_safe fs bound ≡ None
none_there [] bound = λ e. refl
none_there (f ∷ fs) bound =
    elim (safe f bound) as (λ b. suc (length fs) ≤ cond b 0 (safe_position fs bound + 1)
    → cond b (Some (f, fs)) (option_map {U = Found} (λ (h : Found). (h.0, f ∷ h.1)) (first_safe fs bound)) ≡ None) [
      | true ↦ λ e. absurd (omega (arith, e))
      | false ↦ λ e. none_behind f (first_safe fs bound) (none_there fs bound (omega (arith, e)))
    ]

-- ---- what is found first in two lists, one behind the other

abbrev joined : List Formula → List Formula → Option Found → Option Found → Option Found
joined fs rest first second = option_map_or (λ (h : Found). Some (h.0, h.1 ++ rest)) first (option_map (λ (h : Found). (h.0, fs ++ h.1)) second)

joined_behind : (f : Formula) (fs rest : List Formula) (first second : Option Found)
    → option_map {U = Found} (λ (h : Found). (h.0, f ∷ h.1)) (joined fs rest first second) ≡ joined (f ∷ fs) rest (option_map {U = Found} (λ (h : Found). (h.0, f ∷ h.1)) first) second
joined_behind f fs rest None None = refl
joined_behind f fs rest None (Some g) = refl
joined_behind f fs rest (Some g) second = refl

nothing_before : (found : Option Found) → found ≡ option_map {U = Found} (λ (h : Found). (h.0, [] ++ h.1)) found
nothing_before None = refl
nothing_before (Some g) = refl

pub first_joined : (fs rest : List Formula) (bound : List Var) → first_safe (fs ++ rest) bound ≡ joined fs rest (first_safe fs bound) (first_safe rest bound)
first_joined [] rest bound = nothing_before (first_safe rest bound)
first_joined (f ∷ fs) rest bound =
    elim (safe f bound) as (λ b. cond b (Some (f, fs ++ rest)) (option_map {U = Found} (λ (h : Found). (h.0, f ∷ h.1)) (first_safe (fs ++ rest) bound))
    ≡ joined (f ∷ fs) rest (cond b (Some (f, fs)) (option_map {U = Found} (λ (h : Found). (h.0, f ∷ h.1)) (first_safe fs bound))) (first_safe rest bound)) [
      | true ↦ refl
      | false ↦ ap (option_map {U = Found} (λ (h : Found). (h.0, f ∷ h.1))) (first_joined fs rest bound) ∙ joined_behind f fs rest (first_safe fs bound) (first_safe rest bound)
    ]

-- one that is safe is found before those behind it
pub found_before : (fs rest : List Formula) (bound : List Var) (g : Formula) (gs : List Formula) → first_safe fs bound ≡ Some (g, gs) → first_safe (fs ++ rest) bound ≡ Some (g, gs ++ rest)
found_before fs rest bound g gs e = first_joined fs rest bound ∙ ap (λ o. joined fs rest o (first_safe rest bound)) e

safe_one : (g : Formula) (rest : List Formula) (bound : List Var) → safe g bound ≡ true → first_safe (g ∷ rest) bound ≡ Some (g, rest)
safe_one g rest bound e = ap (λ b. cond b (Some (g, rest)) (option_map {U = Found} (λ (h : Found). (h.0, g ∷ h.1)) (first_safe rest bound))) e

-- one that is safe is found behind those that aren't
pub found_behind : (fs rest : List Formula) (bound : List Var) (g : Formula) → first_safe fs bound ≡ None → safe g bound ≡ true
    → first_safe (fs ++ g ∷ rest) bound ≡ Some (g, fs ++ rest)
found_behind fs rest bound g e here =
    first_joined fs (g ∷ rest) bound
    ∙ ap (λ o. joined fs (g ∷ rest) o (first_safe (g ∷ rest) bound)) e
    ∙ ap (option_map {U = Found} (λ (h : Found). (h.0, fs ++ h.1))) (safe_one g rest bound here)

-- none is safe still with another that isn't
pub none_more : (fs : List Formula) (bound : List Var) (g : Formula) → first_safe fs bound ≡ None → safe g bound ≡ false → first_safe (fs ++ g ∷ []) bound ≡ None
none_more fs bound g e here =
    first_joined fs (g ∷ []) bound
    ∙ ap (λ o. joined fs (g ∷ []) o (first_safe (g ∷ []) bound)) e
    ∙ ap (λ b. option_map {U = Found} (λ (h : Found). (h.0, fs ++ h.1)) (cond b (Some (g, [])) None)) here

-- ---- one turn

abbrev Shorter : List Formula → Option Found → Type 0
Shorter fs None = Unit {0}
Shorter fs (Some found) = (length fs ≡ suc (length found.1)) × (sum_by weight fs ≡ weight found.0 + sum_by weight found.1)

shorter_behind : (f : Formula) (fs : List Formula) (found : Option Found) → Shorter fs found → Shorter (f ∷ fs) (option_map {U = Found} (λ (h : Found). (h.0, f ∷ h.1)) found)
shorter_behind f fs None less = tt
shorter_behind f fs (Some g) less = (
  ap suc less.0,
  let a : sum_by weight (f ∷ fs) ≡ weight f + sum_by weight fs = sum_by-cons weight f fs in
      let b : sum_by weight (f ∷ g.1) ≡ weight f + sum_by weight g.1 = sum_by-cons weight f g.1 in
      let c : sum_by weight fs ≡ weight g.0 + sum_by weight g.1 = less.1 in
      omega (arith, a, b, c),
)

shorter : (fs : List Formula) (bound : List Var) → Shorter fs (first_safe fs bound)
shorter [] bound = tt
shorter (f ∷ fs) bound =
    elim (safe f bound) as (λ b. Shorter (f ∷ fs) (cond b (Some (f, fs)) (option_map {U = Found} (λ (h : Found). (h.0, f ∷ h.1)) (first_safe fs bound)))) [
      | true ↦ (refl, sum_by-cons weight f fs)
      | false ↦ shorter_behind f fs (first_safe fs bound) (shorter fs bound)
    ]

turns_taken : (fs : List Formula) (bound : List Var) (g : Formula) (gs : List Formula) → first_safe fs bound ≡ Some (g, gs) → length fs ≡ suc (length gs)
    → turns (length fs) fs bound ≡ led g (turns (length gs) gs (bound ++ occurrences g))
turns_taken [] bound g gs e n = cc
turns_taken (f ∷ fs) bound g gs e n =
    ap (λ (o : Option Found). option_map_or (λ (h : Found). led h.0 (turns (length fs) h.1 (bound ++ occurrences h.0))) o ([], f ∷ fs)) e
    ∙ ap (λ (k : ℕ). led g (turns k gs (bound ++ occurrences g))) (omega (arith, n))

turns_none : (fs : List Formula) (bound : List Var) → first_safe fs bound ≡ None → turns (length fs) fs bound ≡ ([], fs)
turns_none [] bound e = refl
turns_none (f ∷ fs) bound e =
    ap (λ (o : Option Found). option_map_or (λ (h : Found). led h.0 (turns (length fs) h.1 (bound ++ occurrences h.0))) o ([], f ∷ fs)) e

after_led : (before : List Formula) (g : Formula) (found : List Formula × List Formula) → ◌≡◌ {A = List Formula × List Formula} (before ++ (led g found).0, (led g found).1) ((before ++ g ∷ []) ++ found.0, found.1)
after_led before g found = ap (λ (gs : List Formula). (gs, found.1)) (sym (append_assoc before (g ∷ []) found.0))

-- the one that is found first is taken
pub turn : (before fs : List Formula) (bound : List Var) (g : Formula) (gs : List Formula) → first_safe fs bound ≡ Some (g, gs)
    → turns_after (before ++ g ∷ []) gs (bound ++ occurrences g) ≡ turns_after before fs bound
unfolding turns_after
turn before fs bound g gs e =
    let less : Shorter fs (Some (g, gs)) = subst (Shorter fs) e (shorter fs bound) in
    sym (ap (λ (found : List Formula × List Formula). (before ++ found.0, found.1)) (turns_taken fs bound g gs e less.0)
    ∙ after_led before g (turns (length gs) gs (bound ++ occurrences g)))

-- no more is taken
pub no_turn : (before fs : List Formula) (bound : List Var) → first_safe fs bound ≡ None → turns_after before fs bound ≡ (before, fs)
unfolding turns_after
no_turn before fs bound e =
    ap (λ (found : List Formula × List Formula). (before ++ found.0, found.1)) (turns_none fs bound e) ∙ ap (λ (gs : List Formula). (gs, fs)) (append-nil before)

pub turns_begin : (fs : List Formula) (bound : List Var) → turns_after [] fs bound ≡ turns (length fs) fs bound
unfolding turns_after
turns_begin fs bound = refl

-- the one that is looked at is safe, and none of those before it is
pub taken_next : (before waiting rest : List Formula) (bound : List Var) (g : Formula) → first_safe waiting bound ≡ None → safe g bound ≡ true
    → turns_after (before ++ g ∷ []) (waiting ++ rest) (bound ++ occurrences g) ≡ turns_after before (waiting ++ g ∷ rest) bound
taken_next before waiting rest bound g none here = turn before (waiting ++ g ∷ rest) bound g (waiting ++ rest) (found_behind waiting rest bound g none here)

pub map_remove : {X : Type 0} (v : X → Formula) (ws : List X) (i : ℕ) → map v (remove ws i) ≡ remove (map v ws) i
map_remove v [] zero = refl
map_remove v [] (suc i) = refl
map_remove v (w ∷ ws) zero = refl
map_remove v (w ∷ ws) (suc i) = ap (λ (gs : List Formula). v w ∷ gs) (map_remove v ws i)

-- the first that is safe among those that wait
pub taken_waiting : {X : Type 0} (v : X → Formula) (before : List Formula) (ws : List X) (rest : List Formula) (bound : List Var) (i : ℕ) (w : X)
    → i ≡ safe_position (map v ws) bound → slice_get ws i ≡ Some w
    → turns_after (before ++ v w ∷ []) (map v (remove ws i) ++ rest) (bound ++ occurrences (v w)) ≡ turns_after before (map v ws ++ rest) bound
taken_waiting v before ws rest bound i w e at =
    let there : slice_get (map v ws) (safe_position (map v ws) bound) ≡ Some (v w) = ap (slice_get (map v ws)) (sym e) ∙ slice_get-map v ws i ∙ ap (option_map v) at in
    let first : first_safe (map v ws) bound ≡ Some (v w, map v (remove ws i)) =
    first_there (map v ws) bound (v w) there ∙ ap (λ (k : ℕ). Some (v w, remove (map v ws) k)) (sym e) ∙ ap (λ (gs : List Formula). Some (v w, gs)) (sym (map_remove v ws i)) in
    turn before (map v ws ++ rest) bound (v w) (map v (remove ws i) ++ rest) (found_before (map v ws) rest bound (v w) (map v (remove ws i)) first)

-- ---- the walk over the parts: what is still to be looked at is `rest`, and it ends at `end`

pub same_turns : (before before2 fs fs2 : List Formula) (bound bound2 : List Var) → before ≡ before2 → fs ≡ fs2 → bound ≡ bound2
    → turns_after before fs bound ≡ turns_after before2 fs2 bound2
same_turns before before2 fs fs2 bound bound2 p q r =
    ap (λ (gs : List Formula). turns_after gs fs bound) p
    ∙ ap (λ (gs : List Formula). turns_after before2 gs bound) q
    ∙ ap (λ (xs : List Var). turns_after before2 fs2 xs) r

-- no part is left
pub walk_ends : (before waiting rest : List Formula) (bound : List Var) (end : List Formula × List Formula)
    → turns_after before (waiting ++ rest) bound ≡ end → rest ≡ [] → first_safe waiting bound ≡ None
    → ◌≡◌ {A = List Formula × List Formula} (before, waiting) end
walk_ends before waiting rest bound end e h none =
    sym (ap (λ (gs : List Formula). turns_after before gs bound) (ap (λ (gs : List Formula). waiting ++ gs) h ∙ append-nil waiting) ∙ no_turn before waiting bound none) ∙ e

-- ---- what is taken and what is left weigh as much as all

weighs_after : (n : ℕ) (fs : List Formula) (bound : List Var) (found : Option Found) → Shorter fs found
    → ((gs : List Formula) (more : List Var) → sum_by weight (turns n gs more).0 + sum_by weight (turns n gs more).1 ≡ sum_by weight gs)
    → (let t : List Formula × List Formula = option_map_or (λ (h : Found). led h.0 (turns n h.1 (bound ++ occurrences h.0))) found ([], fs) in sum_by weight t.0 + sum_by weight t.1 ≡ sum_by weight fs)
weighs_after n fs bound None less next = omega arith
weighs_after n fs bound (Some g) less next =
    let t : List Formula × List Formula = turns n g.1 (bound ++ occurrences g.0) in
    let a : sum_by weight (g.0 ∷ t.0) ≡ weight g.0 + sum_by weight t.0 = sum_by-cons weight g.0 t.0 in
    let b : sum_by weight t.0 + sum_by weight t.1 ≡ sum_by weight g.1 = next g.1 (bound ++ occurrences g.0) in
    let c : sum_by weight fs ≡ weight g.0 + sum_by weight g.1 = less.1 in
    omega (arith, a, b, c)

pub turns_weigh : (n : ℕ) (fs : List Formula) (bound : List Var) → sum_by weight (turns n fs bound).0 + sum_by weight (turns n fs bound).1 ≡ sum_by weight fs
turns_weigh zero [] bound = refl
turns_weigh (suc n) [] bound = refl
turns_weigh zero (f ∷ fs) bound = omega arith
turns_weigh (suc n) (f ∷ fs) bound = weighs_after n (f ∷ fs) bound (first_safe (f ∷ fs) bound) (shorter (f ∷ fs) bound) (turns_weigh n)

pub after_weighs : (before fs : List Formula) (bound : List Var)
    → sum_by weight (turns_after before fs bound).0 + sum_by weight (turns_after before fs bound).1 ≡ sum_by weight before + sum_by weight fs
unfolding turns_after
after_weighs before fs bound =
    let t : List Formula × List Formula = turns (length fs) fs bound in
    let a : sum_by weight (before ++ t.0) ≡ sum_by weight before + sum_by weight t.0 = sum_by-append weight before t.0 in
    let b : sum_by weight t.0 + sum_by weight t.1 ≡ sum_by weight fs = turns_weigh (length fs) fs bound in
    omega (arith, a, b)

-- ---- all are taken where none is left

left_after : (n : ℕ) (f : Formula) (fs : List Formula) (bound : List Var) (found : Option Found)
    → ((gs : List Formula) (more : List Var) → is_empty (turns n gs more).1 ≡ taken n gs more)
    → is_empty (option_map_or (λ (h : Found). led h.0 (turns n h.1 (bound ++ occurrences h.0))) found ([], f ∷ fs)).1
    ≡ option_map_or (λ (h : Found). taken n h.1 (bound ++ occurrences h.0)) found false
left_after n f fs bound None next = refl
left_after n f fs bound (Some g) next = next g.1 (bound ++ occurrences g.0)

none_left : (n : ℕ) (fs : List Formula) (bound : List Var) → is_empty (turns n fs bound).1 ≡ taken n fs bound
none_left zero [] bound = refl
none_left (suc n) [] bound = refl
none_left zero (f ∷ fs) bound = refl
none_left (suc n) (f ∷ fs) bound = left_after n f fs bound (first_safe (f ∷ fs) bound) (none_left n)

emptied : {X : Type 0} (v : X → Formula) (ws : List X) (b : Bool) → (IsTrue b ↔ (ws ≡ [])) → b ≡ is_empty (map v ws)
emptied v [] b test = test.1 refl
emptied v (w ∷ ws) true test = let e : w ∷ ws ≡ [] = test.0 refl in cc
emptied v (w ∷ ws) false test = refl

-- the test of those that wait
pub none_waits : {X : Type 0} (v : X → Formula) (ws : List X) (b : Bool) (fs : List Formula) (bound : List Var) → (IsTrue b ↔ (ws ≡ [])) → map v ws ≡ (turns (length fs) fs bound).1
    → b ≡ taken (length fs) fs bound
none_waits v ws b fs bound test e = emptied v ws b test ∙ ap is_empty e ∙ none_left (length fs) fs bound

-- ---- the arranged parts follow the turns

along_after : (n : ℕ) (f : Formula) (fs : List Formula) (bound : List Var) (found : Option Found)
    → ((gs : List Formula) (more : List Var) → arranged_along (turns n gs more).0 (turns n gs more).1 more ≡ order n gs more)
    → (let t : List Formula × List Formula = option_map_or (λ (h : Found). led h.0 (turns n h.1 (bound ++ occurrences h.0))) found ([], f ∷ fs) in arranged_along t.0 t.1 bound)
    ≡ option_map_or (λ (h : Found). arranged h.0 bound ∷ order n h.1 (bound ++ occurrences h.0)) found (map (λ g. arranged g bound) (f ∷ fs))
along_after n f fs bound None next = refl
along_after n f fs bound (Some g) next = ap (λ (gs : List Formula). arranged g.0 bound ∷ gs) (next g.1 (bound ++ occurrences g.0))

pub along_turns : (n : ℕ) (fs : List Formula) (bound : List Var) → arranged_along (turns n fs bound).0 (turns n fs bound).1 bound ≡ order n fs bound
along_turns zero [] bound = refl
along_turns (suc n) [] bound = refl
along_turns zero (f ∷ fs) bound = refl
along_turns (suc n) (f ∷ fs) bound = along_after n f fs bound (first_safe (f ∷ fs) bound) (along_turns n)

-- ---- weights of those that are looked at

weighed : {X : Type 0} (v : X → Formula) (ws : List X) → sum_by weight (map v ws) ≡ sum_by (λ w. weight (v w)) ws
weighed v [] = refl
weighed v (w ∷ ws) =
    sum_by-cons weight (v w) (map v ws) ∙ ap (λ (k : ℕ). weight (v w) + k) (weighed v ws) ∙ sym (sum_by-cons (λ u. weight (v u)) w ws)

-- the taken ones and the others weigh as much as all
pub both_weigh : {X : Type 0} (v : X → Formula) (ws us : List X) (fs : List Formula) (bound : List Var)
    → map v ws ≡ (turns (length fs) fs bound).0 → map v us ≡ (turns (length fs) fs bound).1
    → sum_by (λ w. weight (v w)) ws + sum_by (λ w. weight (v w)) us ≡ sum_by weight fs
both_weigh v ws us fs bound e h =
    let t : List Formula × List Formula = turns (length fs) fs bound in
    let a : sum_by weight t.0 + sum_by weight t.1 ≡ sum_by weight fs = turns_weigh (length fs) fs bound in
    let b : sum_by weight (map v ws) ≡ sum_by weight t.0 = ap (sum_by weight) e in
    let c : sum_by weight (map v us) ≡ sum_by weight t.1 = ap (sum_by weight) h in
    let d : sum_by weight (map v ws) ≡ sum_by (λ w. weight (v w)) ws = weighed v ws in
    let g : sum_by weight (map v us) ≡ sum_by (λ w. weight (v w)) us = weighed v us in
    omega (arith, a, b, c, d, g)

-- the taken ones and the others as the code holds them, arranged and appended to nothing
pub along_order : {X : Type 0} (v : X → Formula) (ws us ws2 us2 : List X) (fs made new : List Formula) (bound : List Var)
    → made ≡ new ++ arranged_along (map v ws2) (map v us2) bound → new ≡ [] → ws2 ≡ ws → us2 ≡ us
    → map v ws ≡ (turns (length fs) fs bound).0 → map v us ≡ (turns (length fs) fs bound).1 → made ≡ order (length fs) fs bound
along_order v ws us ws2 us2 fs made new bound m n p q e h =
    m
    ∙ ap (λ (gs : List Formula). gs ++ arranged_along (map v ws2) (map v us2) bound) n
    ∙ ap (λ (gs : List Formula). arranged_along gs (map v us2) bound) (ap (map v) p ∙ e)
    ∙ ap (λ (gs : List Formula). arranged_along (turns (length fs) fs bound).0 gs bound) (ap (map v) q ∙ h)
    ∙ along_turns (length fs) fs bound
