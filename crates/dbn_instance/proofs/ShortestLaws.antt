-- No list of changes that leads where the net changes lead is shorter: a change settles one fact, and each net change is of another fact.
use Rattle.std.proofs.Common.{◌≡◌, ℕ, ◌<◌, ◌≤◌, ◌+◌, Bool, true, false, not, ◌&&◌, ◌||◌, List, [], ◌∷◌, ◌++◌, map, refl, sym, ap, ◌∙◌, subst, inl, inr, ⊎_elim, length, length-append, arith}
use Rattle.std.specs.declared.cmp.Ordering.{Ordering}
use Rattle.std.specs.Ordering.{eq_by_cmp}
use Rattle.std.specs.Cmp.{IsTotalOrder}
use Rattle.std.specs.FinMap.{IsAntisymmetric}
use Rattle.std.specs.List.{filter, All}
use Rattle.std.specs.List.Sorted.{IsStrictlySortedBy}
use Rattle.std.proofs.lemmas.Bool.{true≢false, and_parts, not-true}
use Rattle.std.proofs.lemmas.List.{length-map}
use Rattle.std.proofs.lemmas.List.Elements.{All-head, All-tail}
use Rattle.std.proofs.lemmas.Map.Keys.{sorted_tail}
use Rattle.dbn_value.specs.Members.{In}
use Rattle.dbn_value.proofs.MemberLaws.{in_append, in_filter}
use Rattle.dbn_value.proofs.AscendingLaws.{sorted_ascending, head_below, in_ascending}
use Rattle.dbn_instance.specs.declared.fact.Fact.{Fact}
use Rattle.dbn_instance.specs.declared.fact.Change.{Change}
use Rattle.dbn_instance.specs.declared.fact.Change.TheVariants.{Plus, Minus}
use Rattle.dbn_instance.specs.FactOrder.{fact_cmp, fact_total}
use Rattle.dbn_instance.specs.Facts.{Relations, fact_of, AreInRange, IsInstance, has_fact, without_facts, after_action, changed, after_changes, is_among, lost_facts, gained_facts, net_changes}
use Rattle.dbn_instance.specs.Shortest.{IsShortest}
use Rattle.dbn_instance.proofs.FactLaws.{net_changes_lead, same_is, apart_false, among_from_in, in_range, length_changed, length_without_facts, instance_changed, has_with, has_without, has_after_action, in_lost, in_gained}

-- ---- how many elements pass a test

abbrev bit : Bool → ℕ
bit true = 1
bit false = 0

bit_small : (b : Bool) → bit b ≤ 1
bit_small true = omega arith
bit_small false = omega arith

module _ {A : Type 0} where
  abbrev tally : (A → Bool) → List A → ℕ
  tally t [] = 0
  tally t (x ∷ xs) = bit (t x) + tally t xs

  tally_all : (t : A → Bool) (xs : List A) → ((x : A) → In x xs → t x ≡ true) → tally t xs ≡ length xs
  tally_all t [] all = refl
  tally_all t (x ∷ xs) all =
      let here : bit (t x) ≡ 1 = ap bit (all x (inl refl)) in
      let others : tally t xs ≡ length xs = tally_all t xs (λ y at. all y (inr at)) in
      omega arith

  tally_none : (t : A → Bool) (xs : List A) → ((x : A) → In x xs → t x ≡ false) → tally t xs ≡ 0
  tally_none t [] none = refl
  tally_none t (x ∷ xs) none =
      let here : bit (t x) ≡ 0 = ap bit (none x (inl refl)) in
      let others : tally t xs ≡ 0 = tally_none t xs (λ y at. none y (inr at)) in
      omega arith

  tally_same : (s t : A → Bool) (xs : List A) → ((x : A) → In x xs → s x ≡ t x) → tally s xs ≡ tally t xs
  tally_same s t [] each = refl
  tally_same s t (x ∷ xs) each = λ i. bit (each x (inl refl) i) + tally_same s t xs (λ y at. each y (inr at)) i

  module _ (same : A → A → Bool) where
    -- no element stands there twice
    abbrev Apart : List A → Type 0
    Apart [] = Unit {0}
    Apart (x ∷ xs) = ((y : A) → In y xs → same y x ≡ false) × Apart xs

    apart_append : (xs ys : List A) → Apart xs → Apart ys → ((x y : A) → In x xs → In y ys → same y x ≡ false) → Apart (xs ++ ys)
    apart_append [] ys left right between = right
    apart_append (x ∷ xs) ys left right between = (
      λ y at. ⊎_elim (λ here. left.0 y here) (λ there. between x y (inl refl) there) (in_append y xs ys at),
      apart_append xs ys left.1 right (λ z y at. between z y (inr at)),
    )

    -- two tests that agree but at one element
    tally_near : (s t : A → Bool) (g : A) → ((x : A) → same x g ≡ true → x ≡ g) → (xs : List A) → Apart xs → ((x : A) → same x g ≡ false → s x ≡ t x) → tally s xs ≤ tally t xs + 1
    tally_near s t g is [] apart each = omega arith
    tally_near s t g is (x ∷ xs) apart each = by (same x g) refl (tally_near s t g is xs apart.1 each)
      where
        by : (b : Bool) → same x g ≡ b → tally s xs ≤ tally t xs + 1 → bit (s x) + tally s xs ≤ bit (t x) + tally t xs + 1
        by true e near =
            let others : tally s xs ≡ tally t xs = tally_same s t xs (λ y at. each y (sym (ap (same y) (is x e)) ∙ apart.0 y at)) in
            let small : bit (s x) ≤ 1 = bit_small (s x) in
            omega arith
        by false e near =
            let here : bit (s x) ≡ bit (t x) = ap bit (each x e) in
            omega arith

-- ---- facts that are to come or to go

abbrev unlike : Bool → Bool → Bool
unlike true b = not b
unlike false b = b

alike : (b : Bool) → unlike b b ≡ false
alike true = refl
alike false = refl

module _ {C : Type 0} {cmp : C → C → Ordering} (o : IsTotalOrder cmp) (exact : IsAntisymmetric cmp) where
  abbrev same : Fact C → Fact C → Bool
  same f g = eq_by_cmp (fact_cmp cmp) f g

  abbrev differs : Relations C → Relations C → Fact C → Bool
  differs x y f = unlike (has_fact cmp x f) (has_fact cmp y f)

  others_stay : (db : Relations C) (c : Change C) (f : Fact C) → (fact_of c).rel < length db → IsInstance cmp db → same f (fact_of c) ≡ false → has_fact cmp (changed cmp db c) f ≡ has_fact cmp db f
  others_stay db (Plus g) f within is e = has_with o exact db g f within ∙ ap (λ b. b || has_fact cmp db f) e
  others_stay db (Minus g) f within is e = has_without o exact db g f within is ∙ ap (λ b. not b && has_fact cmp db f) e

  -- changes that lead to a target are at least as many as the facts that differ
  reaches : (changes : List (Change C)) (db target : Relations C) (facts : List (Fact C)) → IsInstance cmp db → All (λ (c : Change C). (fact_of c).rel < length db) changes → Apart same facts
      → after_changes cmp changes db ≡ target → tally (differs db target) facts ≤ length changes
  reaches [] db target facts is all apart e =
      let none : tally (differs db target) facts ≡ 0 = tally_none (differs db target) facts (λ f at. ap (λ later. unlike (has_fact cmp db f) (has_fact cmp later f)) (sym e) ∙ alike (has_fact cmp db f)) in
      omega arith
  reaches (c ∷ changes) db target facts is all apart e =
      let within = All-head (λ (c : Change C). (fact_of c).rel < length db) c changes all in
      let later : tally (differs (changed cmp db c) target) facts ≤ length changes = reaches changes (changed cmp db c) target facts (instance_changed o db c is)
      (subst (λ (n : ℕ). All (λ (c : Change C). (fact_of c).rel < n) changes) (sym (length_changed cmp db c)) (All-tail (λ (c : Change C). (fact_of c).rel < length db) c changes all))
      apart e in
      let near : tally (differs db target) facts ≤ tally (differs (changed cmp db c) target) facts + 1 = tally_near same (differs db target) (differs (changed cmp db c) target) (fact_of c) (λ f here. same_is o exact f (fact_of c) here) facts apart
      (λ f other. ap (λ b. unlike b (has_fact cmp target f)) (sym (others_stay db c f within is other))) in
      omega arith

  apart_sorted : (facts : List (Fact C)) → IsStrictlySortedBy (fact_cmp cmp) facts → Apart same facts
  apart_sorted [] s = tt
  apart_sorted (f ∷ facts) s = (λ g at. apart_false o exact f g (head_below (fact_cmp cmp) f facts g s at), apart_sorted facts (sorted_tail (fact_cmp cmp) f facts s))

  lost_differs : (deletes adds : List (Fact C)) (db : Relations C) (f : Fact C) → IsInstance cmp db → AreInRange db deletes → AreInRange db adds → In f (lost_facts cmp deletes adds db) → differs db (after_action cmp deletes adds db) f ≡ true
  lost_differs deletes adds db f is deletes_in adds_in at =
      let found = in_filter (λ f. has_fact cmp db f && not (is_among cmp adds f)) f deletes (in_ascending (fact_cmp cmp) f _ at) in
      let parts = and_parts (has_fact cmp db f) (not (is_among cmp adds f)) found.1 in
      (λ i. unlike (parts.0 i) (has_after_action o exact deletes adds db f is deletes_in adds_in i))
      ∙ (λ i. not (not-true (is_among cmp adds f) parts.1 i || (not (among_from_in o exact deletes f found.0 i) && has_fact cmp db f)))

  gained_differs : (deletes adds : List (Fact C)) (db : Relations C) (f : Fact C) → IsInstance cmp db → AreInRange db deletes → AreInRange db adds → In f (gained_facts cmp adds db) → differs db (after_action cmp deletes adds db) f ≡ true
  gained_differs deletes adds db f is deletes_in adds_in at =
      let found = in_gained o exact adds db f at in
      (λ i. unlike (found.1 i) (has_after_action o exact deletes adds db f is deletes_in adds_in i))
      ∙ ap (λ b. b || (not (is_among cmp deletes f) && has_fact cmp db f)) (among_from_in o exact adds f found.0)

  -- a fact that goes is none that comes
  between : (deletes adds : List (Fact C)) (db : Relations C) (f g : Fact C) → In f (lost_facts cmp deletes adds db) → In g (gained_facts cmp adds db) → same g f ≡ false
  between deletes adds db f g goes comes =
      elim (same g f) as (λ b. same g f ≡ b → b ≡ false) [
        | true ↦ λ e. absurd (true≢false (sym (in_lost o exact deletes adds db f goes).1 ∙ ap (has_fact cmp db) (sym (same_is o exact g f e)) ∙ (in_gained o exact adds db g comes).1))
        | false ↦ λ e. refl
      ] refl

  shortest : (deletes adds : List (Fact C)) (db : Relations C) (others : List (Change C)) → IsInstance cmp db → AreInRange db deletes → AreInRange db adds
      → All (λ (c : Change C). (fact_of c).rel < length db) others → after_changes cmp others db ≡ after_action cmp deletes adds db
      → length (net_changes cmp deletes adds db) ≤ length others
  shortest deletes adds db others is deletes_in adds_in others_in e =
      let minus = lost_facts cmp deletes adds db in
      let plus = gained_facts cmp adds db in
      let apart = apart_append same minus plus
      (apart_sorted minus (sorted_ascending (fact_total o) (filter (λ f. has_fact cmp db f && not (is_among cmp adds f)) deletes)))
      (apart_sorted plus (sorted_ascending (fact_total o) (filter (λ f. not (has_fact cmp db f)) adds)))
      (λ f g. between deletes adds db f g) in
      let target = after_action cmp deletes adds db in
      let least : tally (differs db target) (minus ++ plus) ≤ length others = reaches others db target (minus ++ plus) is others_in apart e in
      let all : tally (differs db target) (minus ++ plus) ≡ length (minus ++ plus) = tally_all (differs db target) (minus ++ plus)
      (λ f at. ⊎_elim (λ goes. lost_differs deletes adds db f is deletes_in adds_in goes) (λ comes. gained_differs deletes adds db f is deletes_in adds_in comes) (in_append f minus plus at)) in
      omega (arith, length-append minus plus, length-append (map (λ f. Minus f) minus) (map (λ f. Plus f) plus), length-map minus (λ f. Minus f), length-map plus (λ f. Plus f))

  pub net_changes_shortest : (deletes adds : List (Fact C)) (db : Relations C) → IsInstance cmp db → AreInRange db deletes → AreInRange db adds → IsShortest cmp (net_changes cmp deletes adds db) db
  net_changes_shortest deletes adds db is deletes_in adds_in others others_in e =
      shortest deletes adds db others is deletes_in adds_in others_in (e ∙ net_changes_lead o exact deletes adds db is deletes_in adds_in)
