-- What is left of a formula when its safety was tried, variant by variant.
use Rattle.std.proofs.Common.{◌≡◌, ℕ, zero, suc, ◌+◌, ◌≤◌, ◌⊎◌, inl, inr, ⊎_elim, Bool, true, false, ◌&&◌, List, [], ◌∷◌, ◌++◌, map, refl, ap, sym, ◌∙◌, subst, Option, Some, None, length, arith, sum_by, append_assoc, append-nil, cond, ◌<◌, get_or, remove, drop}
use Rattle.std.specs.Option.{option_map_or}
use Rattle.std.specs.Prelude.{slice_set}
use Rattle.std.specs.Bool.{IsTrue}
use Rattle.std.proofs.Math.Logic.{◌↔◌}
use Rattle.std.proofs.lemmas.Bool.{true≢false}
use Rattle.std.proofs.lemmas.List.{drop_more, drop-set-lt}
use Rattle.std.proofs.lemmas.List.Folds.{flat_map-map, list_all-append}
use Rattle.std.specs.Cmp.{both_ways}
use Rattle.std.specs.List.{list_all, flat_map}
use Rattle.std.proofs.lemmas.List.Sums.{sum_by-cons, sum_by-append, sum_by-remove}
use Rattle.dbn_value.specs.Members.{In}
use Rattle.dbn_value.proofs.MemberLaws.{all_at, all_from, in_append, append_left, append_right, in_flat, flat_in}
use Rattle.dbn_value.specs.declared.term.Var.{Var}
use Rattle.dbn_value.specs.declared.term.Term.TheVariants as term
use Rattle.dbn_formula.specs.Variables.{TypedVars, is_in}
use Rattle.dbn_formula.specs.Free.{variable_of, occurrences}
use Rattle.dbn_formula.specs.Safe.{all_in, outside, safe}
use Rattle.dbn_formula.specs.Weight.{weight}
use Rattle.dbn_formula.specs.Conjuncts.{first_safe, taken, led, turns, turns_after, safe_position}
use Rattle.dbn_formula.specs.Rest.{Rest, Rests, stand_in, conjunction_left}
use Rattle.dbn_formula.specs.declared.formula.Formula.{Formula}
use Rattle.dbn_formula.specs.declared.formula.Formula.TheVariants.{And, Or, Not, Exists}
use Rattle.dbn_formula.proofs.Induction.{induction}
use Rattle.dbn_formula.proofs.FreeLaws.{occurrences_atom, occurrences_and, occurrences_or, occurrences_not, occurrences_exists}
use Rattle.dbn_formula.proofs.Weights.{weight_atom, weight_test, weight_and, weight_or, weight_not, weight_implies, weight_exists, weight_forall}
use Rattle.dbn_formula.proofs.VariableLaws.{in_of_is, is_of_in, in_unhidden, unhidden_in}
use Rattle.dbn_formula.proofs.OrderOfParts.{Alike}
use Rattle.dbn_formula.proofs.Arranged.{Within, within_more, alike_append, alike_self}
use Rattle.dbn_formula.proofs.SafeLaws.{safe_atom, safe_or, safe_not, safe_exists}
use Rattle.dbn_formula.proofs.Turns.{turns_weigh, after_weighs}
use Rattle.dbn_formula.proofs.StaysSafe.{Found, FoundIn, first_found, Picked, picked_in, picked_others, picked_length, Twin, AreTwins, taken_twins, own_twin, stays_safe, safe_all, pick_first, outside_more}

-- ---- of one formula

pub rest_self : (bound : List Var) (f : Formula) → Rest bound f f
rest_self bound f = record { as_safe = λ more within. refl; from = λ x at. at; to = λ x at. at; lighter = omega arith }

-- tried again where more is bound
pub rest_then : (bound more : List Var) (f g h : Formula) → Within bound more → Rest bound f g → Rest more g h → Rest more f h
rest_then bound more f g h within first second = record {
  as_safe = λ xs over. second.as_safe xs over ∙ first.as_safe xs (λ x at. over x (within x at));
  from = λ x at. first.from x (second.from x at);
  to = λ x at. second.to x (first.to x at);
  lighter = omega (arith, first.lighter, second.lighter);
}

-- still where more is bound
pub rest_more : (bound more : List Var) (f g : Formula) → Within bound more → Rest bound f g → Rest more f g
rest_more bound more f g within rest = rest_then bound more f g g within rest (rest_self more g)

rest_alike : (bound : List Var) (f g : Formula) → Rest bound f g → Alike (occurrences g) (occurrences f)
rest_alike bound f g rest = record { there = rest.from; back = rest.to }

all_in_both : (us vs xs ys : List Var) → Alike us vs → Alike xs ys → all_in us xs ≡ all_in vs ys
all_in_both us vs xs ys alike same =
    both_ways (all_in us xs) (all_in vs ys)
    (λ e. all_from (λ x. is_in x ys) vs (λ x at. is_of_in x ys (same.there x (in_of_is x xs (all_at (λ y. is_in y xs) x us e (alike.back x at))))))
    (λ e. all_from (λ x. is_in x xs) us (λ x at. is_of_in x xs (same.back x (in_of_is x ys (all_at (λ y. is_in y ys) x vs e (alike.there x at))))))

pub rest_not : (bound : List Var) (f g : Formula) → Rest bound f g → Rest bound (Not f) (Not g)
rest_not bound f g rest = record {
  as_safe = λ more within.
      safe_not g more ∙ ap (λ b. b && safe g more) (all_in_both (occurrences g) (occurrences f) more more (rest_alike bound f g rest) (alike_self more))
      ∙ ap (λ b. all_in (occurrences f) more && b) (rest.as_safe more within) ∙ sym (safe_not f more);
  from = λ x at. subst (In x) (sym (occurrences_not f)) (rest.from x (subst (In x) (occurrences_not g) at));
  to = λ x at. subst (In x) (sym (occurrences_not g)) (rest.to x (subst (In x) (occurrences_not f) at));
  lighter = omega (arith, weight_not f, weight_not g, rest.lighter);
}

pub rest_exists : (bound : List Var) (vars : TypedVars) (f g : Formula) → Rest (outside vars bound) f g → Rest bound (Exists vars f) (Exists vars g)
rest_exists bound vars f g rest = record {
  as_safe = λ more within. safe_exists vars g more ∙ rest.as_safe (outside vars more) (outside_more vars bound more within) ∙ sym (safe_exists vars f more);
  from = λ x at.
      let found = in_unhidden vars x (occurrences g) (subst (In x) (occurrences_exists vars g) at) in
      subst (In x) (sym (occurrences_exists vars f)) (unhidden_in vars x (occurrences f) (rest.from x found.0) found.1);
  to = λ x at.
      let found = in_unhidden vars x (occurrences f) (subst (In x) (occurrences_exists vars f) at) in
      subst (In x) (sym (occurrences_exists vars g)) (unhidden_in vars x (occurrences g) (rest.to x found.0) found.1);
  lighter = omega (arith, weight_exists vars f, weight_exists vars g, rest.lighter);
}

-- ---- of many

pub rests_more : (bound more : List Var) (fs gs : List Formula) → Within bound more → Rests bound fs gs → Rests more fs gs
rests_more bound more [] [] within rests = tt
rests_more bound more [] (g ∷ gs) within rests = absurd rests
rests_more bound more (f ∷ fs) [] within rests = absurd rests
rests_more bound more (f ∷ fs) (g ∷ gs) within rests = (rest_more bound more f g within rests.0, rests_more bound more fs gs within rests.1)

pub rests_then : (bound : List Var) (fs gs hs : List Formula) → Rests bound fs gs → Rests bound gs hs → Rests bound fs hs
rests_then bound [] [] [] first second = tt
rests_then bound [] [] (h ∷ hs) first second = absurd second
rests_then bound [] (g ∷ gs) hs first second = absurd first
rests_then bound (f ∷ fs) [] hs first second = absurd first
rests_then bound (f ∷ fs) (g ∷ gs) [] first second = absurd second
rests_then bound (f ∷ fs) (g ∷ gs) (h ∷ hs) first second =
    (rest_then bound bound f g h (λ x at. at) first.0 second.0, rests_then bound fs gs hs first.1 second.1)

pub rests_self : (bound : List Var) (fs : List Formula) → Rests bound fs fs
rests_self bound [] = tt
rests_self bound (f ∷ fs) = (rest_self bound f, rests_self bound fs)

pub rests_append : (bound : List Var) (fs gs us vs : List Formula) → Rests bound fs gs → Rests bound us vs → Rests bound (fs ++ us) (gs ++ vs)
rests_append bound [] [] us vs first second = second
rests_append bound [] (g ∷ gs) us vs first second = absurd first
rests_append bound (f ∷ fs) [] us vs first second = absurd first
rests_append bound (f ∷ fs) (g ∷ gs) us vs first second = (first.0, rests_append bound fs gs us vs first.1 second)

pub rests_one : (bound : List Var) (fs gs : List Formula) (f g : Formula) → Rests bound fs gs → Rest bound f g → Rests bound (fs ++ f ∷ []) (gs ++ g ∷ [])
rests_one bound fs gs f g rests rest = rests_append bound fs gs (f ∷ []) (g ∷ []) rests (rest, tt)

rests_alike : (bound : List Var) (fs gs : List Formula) → Rests bound fs gs → Alike (flat_map occurrences gs) (flat_map occurrences fs)
rests_alike bound [] [] rests = alike_self []
rests_alike bound [] (g ∷ gs) rests = absurd rests
rests_alike bound (f ∷ fs) [] rests = absurd rests
rests_alike bound (f ∷ fs) (g ∷ gs) rests =
    alike_append (occurrences g) (flat_map occurrences gs) (occurrences f) (flat_map occurrences fs) (rest_alike bound f g rests.0) (rests_alike bound fs gs rests.1)

pub rests_length : (bound : List Var) (fs gs : List Formula) → Rests bound fs gs → length gs ≡ length fs
rests_length bound [] [] rests = refl
rests_length bound [] (g ∷ gs) rests = absurd rests
rests_length bound (f ∷ fs) [] rests = absurd rests
rests_length bound (f ∷ fs) (g ∷ gs) rests = ap suc (rests_length bound fs gs rests.1)

pub rests_weigh : (bound : List Var) (fs gs : List Formula) → Rests bound fs gs → sum_by weight gs ≤ sum_by weight fs
rests_weigh bound [] [] rests = omega arith
rests_weigh bound [] (g ∷ gs) rests = absurd rests
rests_weigh bound (f ∷ fs) [] rests = absurd rests
rests_weigh bound (f ∷ fs) (g ∷ gs) rests =
    let a : sum_by weight (f ∷ fs) ≡ weight f + sum_by weight fs = sum_by-cons weight f fs in
    let b : sum_by weight (g ∷ gs) ≡ weight g + sum_by weight gs = sum_by-cons weight g gs in
    let c : sum_by weight gs ≤ sum_by weight fs = rests_weigh bound fs gs rests.1 in
    omega (arith, a, b, c, rests.0.lighter)

-- ---- of a disjunction

or_same : (bound more all every : List Var) (fs gs : List Formula) → Within bound more → Alike every all → Rests bound fs gs
    → list_all (λ g. safe g more && all_in every (more ++ occurrences g)) gs ≡ list_all (λ f. safe f more && all_in all (more ++ occurrences f)) fs
or_same bound more all every [] [] within alike rests = refl
or_same bound more all every [] (g ∷ gs) within alike rests = absurd rests
or_same bound more all every (f ∷ fs) [] within alike rests = absurd rests
or_same bound more all every (f ∷ fs) (g ∷ gs) within alike rests =
    ap (λ b. (b && all_in every (more ++ occurrences g)) && list_all (λ h. safe h more && all_in every (more ++ occurrences h)) gs) (rests.0.as_safe more within)
    ∙ ap (λ b. (safe f more && b) && list_all (λ h. safe h more && all_in every (more ++ occurrences h)) gs)
    (all_in_both every all (more ++ occurrences g) (more ++ occurrences f) alike (alike_append more (occurrences g) more (occurrences f) (alike_self more) (rest_alike bound f g rests.0)))
    ∙ ap (λ b. (safe f more && all_in all (more ++ occurrences f)) && b) (or_same bound more all every fs gs within alike rests.1)

pub rest_or : (bound : List Var) (fs gs : List Formula) → Rests bound fs gs → Rest bound (Or fs) (Or gs)
rest_or bound fs gs rests =
    let alike : Alike (flat_map occurrences gs) (flat_map occurrences fs) = rests_alike bound fs gs rests in
    record {
      as_safe = λ more within.
          safe_or gs more ∙ or_same bound more (flat_map occurrences fs) (flat_map occurrences gs) fs gs within alike rests ∙ sym (safe_or fs more);
      from = λ x at. subst (In x) (sym (occurrences_or fs)) (alike.there x (subst (In x) (occurrences_or gs) at));
      to = λ x at. subst (In x) (sym (occurrences_or gs)) (alike.back x (subst (In x) (occurrences_or fs) at));
      lighter = omega (arith, weight_or fs, weight_or gs, rests_weigh bound fs gs rests);
    }

-- ---- of a conjunction

-- all are taken where all that is left of them is
rest_twin : (bound : List Var) (f g : Formula) → Rest bound f g → Twin bound g f
rest_twin bound f g rest = record {
  as_safe = λ xs ys within alike. rest.as_safe xs within ∙ (own_twin [] f (stays_safe f)).as_safe xs ys (λ x at. absurd at) alike;
  vars = rest_alike bound f g rest;
}

rest_twins : (bound : List Var) (fs gs : List Formula) → Rests bound fs gs → AreTwins bound gs fs
rest_twins bound [] [] rests = tt
rest_twins bound [] (g ∷ gs) rests = absurd rests
rest_twins bound (f ∷ fs) [] rests = absurd rests
rest_twins bound (f ∷ fs) (g ∷ gs) rests = (rest_twin bound f g rests.0, rest_twins bound fs gs rests.1)

rests_safe : (bound more : List Var) (fs gs : List Formula) → Within bound more → Rests bound fs gs → safe (And gs) more ≡ safe (And fs) more
rests_safe bound more fs gs within rests =
    safe_all gs more ∙ ap (λ (n : ℕ). taken n gs more) (rests_length bound fs gs rests)
    ∙ taken_twins (length fs) bound gs fs more more (rest_twins bound fs gs rests) within (alike_self more) ∙ sym (safe_all fs more)

-- those that were taken bind their variables wherever at least as much is bound, and the others are left
pub record Walked (fs : List Formula) (bound : List Var) (gone left : List Formula) : Type 0 where
  pub as_safe : (more : List Var) → Within bound more → safe (And fs) more ≡ safe (And left) (more ++ flat_map occurrences gone)
  pub parts : (h : Formula) → In h fs → In h gone ⊎ In h left
  pub gone_in : (h : Formula) → In h gone → In h fs
  pub left_in : (h : Formula) → In h left → In h fs
  pub long : length fs ≡ length gone + length left

none_walked : (fs : List Formula) (bound : List Var) → Walked fs bound [] fs
none_walked fs bound = record {
  as_safe = λ more within. ap (safe (And fs)) (sym (append-nil more));
  parts = λ h at. inr at;
  gone_in = λ h at. absurd at;
  left_in = λ h at. at;
  long = omega arith;
}

picked_parts : (g : Formula) (fs rest : List Formula) → Picked g fs rest → (h : Formula) → In h fs → (h ≡ g) ⊎ In h rest
picked_parts g [] rest picked h at = absurd picked
picked_parts g (f ∷ fs) rest picked h at =
    ⊎_elim
    (λ (here : (g ≡ f) × (rest ≡ fs)). ⊎_elim (λ is. inl (is ∙ sym here.0)) (λ there. inr (subst (In h) (sym here.1) there)) at)
    (λ (far : (others : List Formula) × Picked g fs others × (rest ≡ f ∷ others)).
    ⊎_elim
    (λ is. inr (subst (In h) (sym far.2) (inl is)))
    (λ there. ⊎_elim (λ is. inl is) (λ more. inr (subst (In h) (sym far.2) (inr more))) (picked_parts g fs far.0 far.1 h there))
    at)
    picked

one_walked : (fs : List Formula) (bound : List Var) (g : Formula) (rest gone left : List Formula) → safe g bound ≡ true → Picked g fs rest
    → Walked rest (bound ++ occurrences g) gone left → Walked fs bound (g ∷ gone) left
one_walked fs bound g rest gone left here picked walked = record {
  as_safe = λ more within.
      pick_first g fs rest more picked (stays_safe g bound more within here)
      ∙ walked.as_safe (more ++ occurrences g) (within_more bound more (occurrences g) within)
      ∙ ap (safe (And left)) (append_assoc more (occurrences g) (flat_map occurrences gone));
  parts = λ h at.
      ⊎_elim
      (λ is. inl (inl is))
      (λ there. ⊎_elim (λ a. inl (inr a)) (λ b. inr b) (walked.parts h there))
      (picked_parts g fs rest picked h at);
  gone_in = λ h at. ⊎_elim (λ is. subst (λ k. In k fs) (sym is) (picked_in g fs rest picked)) (λ there. picked_others g fs rest picked h (walked.gone_in h there)) at;
  left_in = λ h at. picked_others g fs rest picked h (walked.left_in h at);
  long = omega (arith, picked_length g fs rest picked, walked.long);
}

walked_after : (n : ℕ) (fs : List Formula) (bound : List Var) (found : Option Found) → FoundIn fs bound found
    → ((gs : List Formula) (more : List Var) → Walked gs more (turns n gs more).0 (turns n gs more).1)
    → (let t : List Formula × List Formula = option_map_or (λ (h : Found). led h.0 (turns n h.1 (bound ++ occurrences h.0))) found ([], fs) in Walked fs bound t.0 t.1)
walked_after n fs bound None none next = none_walked fs bound
walked_after n fs bound (Some g) found next =
    one_walked fs bound g.0 g.1 (turns n g.1 (bound ++ occurrences g.0)).0 (turns n g.1 (bound ++ occurrences g.0)).1 found.0 found.1 (next g.1 (bound ++ occurrences g.0))

pub walked : (n : ℕ) (fs : List Formula) (bound : List Var) → Walked fs bound (turns n fs bound).0 (turns n fs bound).1
walked zero [] bound = none_walked [] bound
walked (suc n) [] bound = none_walked [] bound
walked zero (f ∷ fs) bound = none_walked (f ∷ fs) bound
walked (suc n) (f ∷ fs) bound = walked_after n (f ∷ fs) bound (first_safe (f ∷ fs) bound) (first_found (f ∷ fs) bound) (walked n)

stand_in_vars : (xs : List Var) → flat_map variable_of (map term.Var xs) ≡ xs
stand_in_vars [] = refl
stand_in_vars (x ∷ xs) = ap (λ ys. x ∷ ys) (stand_in_vars xs)

occurrences_stand_in : (xs : List Var) → occurrences (stand_in xs) ≡ xs
occurrences_stand_in xs = occurrences_atom 0 (map term.Var xs) ∙ stand_in_vars xs

pub some_weight : (f : Formula) → 1 ≤ weight f
some_weight = induction (λ f. 1 ≤ weight f) (record {
  atom = λ rel terms. omega (arith, weight_atom rel terms);
  test = λ c left right. omega (arith, weight_test c left right);
  both = λ fs each. omega (arith, weight_and fs);
  either = λ fs each. omega (arith, weight_or fs);
  denial = λ f here. omega (arith, weight_not f);
  implication = λ f g here there. omega (arith, weight_implies f g);
  some = λ vars f here. omega (arith, weight_exists vars f);
  every = λ vars f here. omega (arith, weight_forall vars f);
})

-- what is left of it, by the taken ones
left_safe : (gone lefts : List Formula) (more : List Var) → safe (conjunction_left gone lefts) more ≡ safe (And lefts) (more ++ flat_map occurrences gone)
left_safe [] lefts more = ap (safe (And lefts)) (sym (append-nil more))
left_safe (f ∷ fs) lefts more =
    let xs : List Var = flat_map occurrences (f ∷ fs) in
    pick_first (stand_in xs) (stand_in xs ∷ lefts) lefts more (inl (refl, refl)) (safe_atom 0 (map term.Var xs) more)
    ∙ ap (λ (ys : List Var). safe (And lefts) (more ++ ys)) (occurrences_stand_in xs)

left_vars : (gone lefts : List Formula) → occurrences (conjunction_left gone lefts) ≡ flat_map occurrences gone ++ flat_map occurrences lefts
left_vars [] lefts = occurrences_and lefts
left_vars (f ∷ fs) lefts =
    let xs : List Var = flat_map occurrences (f ∷ fs) in
    occurrences_and (stand_in xs ∷ lefts) ∙ ap (λ ys. ys ++ flat_map occurrences lefts) (occurrences_stand_in xs)

left_weight : (gone lefts : List Formula) → weight (conjunction_left gone lefts) ≤ sum_by weight gone + sum_by weight lefts + (length gone + length lefts) + 6
left_weight [] lefts = omega (arith, weight_and lefts)
left_weight (f ∷ fs) lefts =
    let xs : List Var = flat_map occurrences (f ∷ fs) in
    let a : weight (And (stand_in xs ∷ lefts)) ≡ sum_by weight (stand_in xs ∷ lefts) + length (stand_in xs ∷ lefts) + 6 = weight_and (stand_in xs ∷ lefts) in
    let b : sum_by weight (stand_in xs ∷ lefts) ≡ weight (stand_in xs) + sum_by weight lefts = sum_by-cons weight (stand_in xs) lefts in
    let c : weight (stand_in xs) ≡ 1 = weight_atom 0 (map term.Var xs) in
    let d : sum_by weight (f ∷ fs) ≡ weight f + sum_by weight fs = sum_by-cons weight f fs in
    omega (arith, a, b, c, d, some_weight f)

pub rest_and : (bound : List Var) (fs gone waiting lefts : List Formula) → gone ≡ (turns (length fs) fs bound).0 → waiting ≡ (turns (length fs) fs bound).1
    → Rests (bound ++ flat_map occurrences gone) waiting lefts → Rest bound (And fs) (conjunction_left gone lefts)
rest_and bound fs gone waiting lefts p q rests =
    let w : Walked fs bound gone waiting =
    subst (λ us. Walked fs bound us waiting) (sym p) (subst (Walked fs bound (turns (length fs) fs bound).0) (sym q) (walked (length fs) fs bound)) in
    let xs : List Var = flat_map occurrences gone in
    let alike : Alike (flat_map occurrences lefts) (flat_map occurrences waiting) = rests_alike (bound ++ xs) waiting lefts rests in
    let total : sum_by weight gone + sum_by weight waiting ≡ sum_by weight fs =
    ap (λ us. sum_by weight us + sum_by weight waiting) p ∙ ap (λ us. sum_by weight (turns (length fs) fs bound).0 + sum_by weight us) q ∙ turns_weigh (length fs) fs bound in
    let less : sum_by weight lefts ≤ sum_by weight waiting = rests_weigh (bound ++ xs) waiting lefts rests in
    let long : length lefts ≡ length waiting = rests_length (bound ++ xs) waiting lefts rests in
    record {
      as_safe = λ more within.
          left_safe gone lefts more ∙ rests_safe (bound ++ xs) (more ++ xs) waiting lefts (within_more bound more xs within) rests ∙ sym (w.as_safe more within);
      from = λ x at.
          subst (In x) (sym (occurrences_and fs)) (⊎_elim
          (λ here. let found = in_flat occurrences x gone here in flat_in occurrences x found.0 fs (w.gone_in found.0 found.1) found.2)
          (λ there. let found = in_flat occurrences x waiting (alike.there x there) in flat_in occurrences x found.0 fs (w.left_in found.0 found.1) found.2)
          (in_append x xs (flat_map occurrences lefts) (subst (In x) (left_vars gone lefts) at)));
      to = λ x at.
          let found = in_flat occurrences x fs (subst (In x) (occurrences_and fs) at) in
          subst (In x) (sym (left_vars gone lefts)) (⊎_elim
          (λ here. append_left x xs (flat_map occurrences lefts) (flat_in occurrences x found.0 gone here found.2))
          (λ there. append_right x xs (flat_map occurrences lefts) (alike.back x (flat_in occurrences x found.0 waiting there found.2)))
          (w.parts found.0 found.1));
      lighter = omega (arith, left_weight gone lefts, weight_and fs, total, less, long, w.long);
    }

-- ---- as the code holds them

pub left_by : {X : Type 0} (v : X → Formula) (ws : List X) (b : Bool) (lefts : List Formula) → (IsTrue b ↔ (ws ≡ []))
    → cond b (And lefts) (And (stand_in (flat_map (λ w. occurrences (v w)) ws) ∷ lefts)) ≡ conjunction_left (map v ws) lefts
left_by v [] true lefts test = refl
left_by v [] false lefts test = absurd (true≢false (sym (test.1 refl)))
left_by v (w ∷ ws) true lefts test = let e : w ∷ ws ≡ [] = test.0 refl in cc
left_by v (w ∷ ws) false lefts test = ap (λ xs. And (stand_in (occurrences (v w) ++ xs) ∷ lefts)) (sym (flat_map-map occurrences v ws))

flat_one : (fs : List Formula) (g : Formula) → flat_map occurrences (fs ++ g ∷ []) ≡ flat_map occurrences fs ++ occurrences g
flat_one [] g = append-nil (occurrences g)
flat_one (f ∷ fs) g = ap (λ ys. occurrences f ++ ys) (flat_one fs g) ∙ sym (append_assoc (occurrences f) (flat_map occurrences fs) (occurrences g))

-- one more is taken
pub grown_one : (given bound more : List Var) (gone after : List Formula) (g : Formula) → bound ≡ given ++ flat_map occurrences gone → more ≡ bound ++ occurrences g → after ≡ gone ++ g ∷ []
    → more ≡ given ++ flat_map occurrences after
grown_one given bound more gone after g e m n =
    m ∙ ap (λ xs. xs ++ occurrences g) e ∙ append_assoc given (flat_map occurrences gone) (occurrences g)
    ∙ ap (λ xs. given ++ xs) (sym (flat_one gone g)) ∙ ap (λ fs. given ++ flat_map occurrences fs) (sym n)

pub within_bound : (bound more : List Var) (g : Formula) → more ≡ bound ++ occurrences g → Within bound more
within_bound bound more g e x at = subst (In x) (sym e) (append_left x bound (occurrences g) at)

pub rests_position : (bound : List Var) (fs gs : List Formula) → Rests bound fs gs → safe_position gs bound ≡ safe_position fs bound
rests_position bound [] [] rests = refl
rests_position bound [] (g ∷ gs) rests = absurd rests
rests_position bound (f ∷ fs) [] rests = absurd rests
rests_position bound (f ∷ fs) (g ∷ gs) rests =
    ap (λ b. cond b 0 (safe_position gs bound + 1)) (rests.0.as_safe bound (λ x at. at)) ∙ ap (λ n. cond (safe f bound) 0 (n + 1)) (rests_position bound fs gs rests.1)

pub rests_remove : (bound : List Var) (fs gs : List Formula) (i : ℕ) → Rests bound fs gs → Rests bound (remove fs i) (remove gs i)
rests_remove bound [] [] zero rests = tt
rests_remove bound [] [] (suc i) rests = tt
rests_remove bound [] (g ∷ gs) i rests = absurd rests
rests_remove bound (f ∷ fs) [] i rests = absurd rests
rests_remove bound (f ∷ fs) (g ∷ gs) zero rests = rests.1
rests_remove bound (f ∷ fs) (g ∷ gs) (suc i) rests = (rests.0, rests_remove bound fs gs i rests.1)

pub rests_set : (bound : List Var) (fs gs : List Formula) (i : ℕ) (d g : Formula) → Rests bound fs gs → i < length gs → Rest bound (get_or gs i d) g → Rests bound fs (slice_set gs i g)
rests_set bound [] [] i d g rests h rest = absurd (omega (arith, h))
rests_set bound [] (k ∷ gs) i d g rests h rest = absurd rests
rests_set bound (f ∷ fs) [] i d g rests h rest = absurd rests
rests_set bound (f ∷ fs) (k ∷ gs) zero d g rests h rest = (rest_then bound bound f k g (λ x at. at) rests.0 rest, rests.1)
rests_set bound (f ∷ fs) (k ∷ gs) (suc i) d g rests h rest = (rests.0, rests_set bound fs gs i d g rests.1 (omega (arith, h)) rest)

ahead : (gs : List Formula) (i : ℕ) (d : Formula) (bound : List Var) → i < length gs
    → safe_position (drop i gs) bound ≡ cond (safe (get_or gs i d) bound) 0 (safe_position (drop (i + 1) gs) bound + 1)
ahead gs i d bound h = ap (λ fs. safe_position fs bound) (drop_more gs i d h)

-- it isn't safe, and gives way to what is left of it
pub position_behind : (gs : List Formula) (i n : ℕ) (d g : Formula) (bound : List Var) → i < length gs → n ≡ i + safe_position (drop i gs) bound → safe (get_or gs i d) bound ≡ false
    → n ≡ i + 1 + safe_position (drop (i + 1) (slice_set gs i g)) bound
position_behind gs i n d g bound h e here =
    let a : safe_position (drop i gs) bound ≡ safe_position (drop (i + 1) gs) bound + 1 = ahead gs i d bound h ∙ ap (λ b. cond b 0 (safe_position (drop (i + 1) gs) bound + 1)) here in
    let b : safe_position (drop (i + 1) (slice_set gs i g)) bound ≡ safe_position (drop (i + 1) gs) bound =
    ap (λ fs. safe_position fs bound) (drop-set-lt (i + 1) gs i g (omega arith)) in
    omega (arith, e, a, b)

-- an atom in front of those that wait
pub left_some : {X : Type 0} (v : X → Formula) (ws : List X) (b : Bool) (atom : Formula) (front lefts parts : List Formula) → (IsTrue b ↔ (ws ≡ [])) → b ≡ false
    → atom ≡ stand_in (flat_map (λ w. occurrences (v w)) ws) → front ≡ atom ∷ [] → parts ≡ front ++ lefts → And parts ≡ conjunction_left (map v ws) lefts
left_some v ws b atom front lefts parts test e is f p =
    ap And (p ∙ ap (λ fs. fs ++ lefts) f ∙ ap (λ g. g ∷ lefts) is)
    ∙ ap (λ k. cond k (And lefts) (And (stand_in (flat_map (λ w. occurrences (v w)) ws) ∷ lefts))) (sym e)
    ∙ left_by v ws b lefts test

-- those that wait, and those to come, weigh no more than all
pub ahead_weighs : {X : Type 0} (v : X → Formula) (before : List Formula) (ws : List X) (lefts rest : List Formula) (bound : List Var) (fs : List Formula) (given : List Var)
    → turns_after before (map v ws ++ rest) bound ≡ turns (length fs) fs given → Rests bound (map v ws) lefts → sum_by weight lefts + sum_by weight rest ≤ sum_by weight fs
ahead_weighs v before ws lefts rest bound fs given e rests =
    let total : List Formula × List Formula → ℕ = λ t. sum_by weight t.0 + sum_by weight t.1 in
    let a : total (turns_after before (map v ws ++ rest) bound) ≡ sum_by weight before + sum_by weight (map v ws ++ rest) = after_weighs before (map v ws ++ rest) bound in
    let b : total (turns (length fs) fs given) ≡ sum_by weight fs = turns_weigh (length fs) fs given in
    let c : sum_by weight (map v ws ++ rest) ≡ sum_by weight (map v ws) + sum_by weight rest = sum_by-append weight (map v ws) rest in
    let d : total (turns_after before (map v ws ++ rest) bound) ≡ total (turns (length fs) fs given) = ap total e in
    let h : sum_by weight lefts ≤ sum_by weight (map v ws) = rests_weigh bound (map v ws) lefts rests in
    omega (arith, a, b, c, d, h)

rests_none : (bound : List Var) (fs gs : List Formula) → fs ≡ [] → gs ≡ [] → Rests bound fs gs
rests_none bound [] [] e h = tt
rests_none bound [] (g ∷ gs) e h = cc
rests_none bound (f ∷ fs) gs e h = cc

pub rests_begin : {X : Type 0} (v : X → Formula) (bound : List Var) (ws : List X) (gs : List Formula) → ws ≡ [] → gs ≡ [] → Rests bound (map v ws) gs
rests_begin v bound ws gs e h = rests_none bound (map v ws) gs (ap (map v) e) h

-- the same lists, where more is bound
pub rests_over : (bound more : List Var) (us fs vs gs : List Formula) → Within bound more → us ≡ fs → vs ≡ gs → Rests bound fs gs → Rests more us vs
rests_over bound more us fs vs gs within e h rests = subst (λ ks. Rests more ks vs) (sym e) (subst (Rests more fs) (sym h) (rests_more bound more fs gs within rests))

-- one more at the end of both
pub rests_push : (bound : List Var) (us fs vs gs : List Formula) (f g : Formula) → us ≡ fs ++ f ∷ [] → vs ≡ gs ++ g ∷ [] → Rests bound fs gs → Rest bound f g → Rests bound us vs
rests_push bound us fs vs gs f g e h rests rest = rests_over bound bound us (fs ++ f ∷ []) vs (gs ++ g ∷ []) (λ x at. at) e h (rests_one bound fs gs f g rests rest)

and_true : (b : Bool) → (b && true) ≡ b
and_true true = refl
and_true false = refl

-- one more part of a disjunction is looked at
pub or_more : (bound needed : List Var) (fs gs : List Formula) (f : Formula) (so_far here enough now : Bool) → now ≡ (so_far && (here && enough))
    → so_far ≡ list_all (λ g. safe g bound && all_in needed (bound ++ occurrences g)) fs → here ≡ safe f bound → enough ≡ all_in needed (bound ++ occurrences f) → gs ≡ fs ++ f ∷ []
    → now ≡ list_all (λ g. safe g bound && all_in needed (bound ++ occurrences g)) gs
or_more bound needed fs gs f so_far here enough now e a b c h =
    let p : Formula → Bool = λ g. safe g bound && all_in needed (bound ++ occurrences g) in
    e ∙ ap (λ x. x && (here && enough)) a ∙ ap (λ x. list_all p fs && (x && enough)) b ∙ ap (λ x. list_all p fs && (safe f bound && x)) c
    ∙ ap (λ x. list_all p fs && x) (sym (and_true (p f))) ∙ sym (list_all-append p fs (f ∷ [])) ∙ ap (list_all p) (sym h)

-- one of them weighs no more than all that it stands for
pub one_weighs : (bound : List Var) (fs gs : List Formula) (i : ℕ) (g : Formula) → Rests bound fs gs → i < length gs → g ≡ get_or gs i g → weight g ≤ sum_by weight fs
one_weighs bound fs gs i g rests h e =
    let a : sum_by weight (remove gs i) + weight (get_or gs i g) ≡ sum_by weight gs = sum_by-remove weight gs i g h in
    let b : weight g ≡ weight (get_or gs i g) = ap weight e in
    let c : sum_by weight gs ≤ sum_by weight fs = rests_weigh bound fs gs rests in
    omega (arith, a, b, c)
