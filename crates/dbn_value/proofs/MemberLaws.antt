-- What stands in a list, against std's tests and words for lists.
use Rattle.std.proofs.Common.{◌≡◌, ℕ, ◌⊎◌, Bool, true, false, cond, ◌||◌, List, [], ◌∷◌, ◌++◌, map, refl, sym, ap, ◌∙◌, subst, inl, inr, ⊎_elim, Option, Some, None, length, ◌<◌, get_or, arith, suc, zero}
use Rattle.std.specs.List.{list_any, list_all, filter, flat_map, AllByRecursion, slice_get, All, Contains}
use Rattle.std.proofs.lemmas.Bool.{and_parts, and_from, or_cases, or_left, or_right, true≢false}
use Rattle.std.proofs.lemmas.List.Elements.{All-nil, All-cons, All-head, All-tail}
use Rattle.std.specs.Option.{unwrap_or}
use Rattle.std.proofs.lemmas.Option.{unwrap_or-slice_get}
use Rattle.dbn_value.specs.Members.{In}

module _ {A : Type 0} where
  -- ---- tests

  pub any_in : (t : A → Bool) (xs : List A) → list_any t xs ≡ true → (x : A) × In x xs × (t x ≡ true)
  any_in t [] e = absurd (true≢false (sym e))
  any_in t (y ∷ ys) e =
      ⊎_elim
      (λ here. (y, inl refl, here))
      (λ there. let found = any_in t ys there in (found.0, inr found.1, found.2))
      (or_cases (t y) (list_any t ys) e)

  pub in_any : (t : A → Bool) (x : A) (xs : List A) → In x xs → t x ≡ true → list_any t xs ≡ true
  in_any t x [] at e = absurd at
  in_any t x (y ∷ ys) at e =
      ⊎_elim
      (λ here. or_left (t y) (list_any t ys) (subst (λ z. t z ≡ true) here e))
      (λ there. or_right (t y) (list_any t ys) (in_any t x ys there e))
      at

  pub all_at : (t : A → Bool) (x : A) (xs : List A) → list_all t xs ≡ true → In x xs → t x ≡ true
  all_at t x [] e at = absurd at
  all_at t x (y ∷ ys) e at =
      let both = and_parts (t y) (list_all t ys) e in
      ⊎_elim
      (λ here. subst (λ z. t z ≡ true) (sym here) both.0)
      (λ there. all_at t x ys both.1 there)
      at

  pub all_from : (t : A → Bool) (xs : List A) → ((x : A) → In x xs → t x ≡ true) → list_all t xs ≡ true
  all_from t [] each = refl
  all_from t (y ∷ ys) each = and_from (t y) (list_all t ys) (each y (inl refl)) (all_from t ys (λ x at. each x (inr at)))

  -- a test that passes nowhere
  pub none_from : (t : A → Bool) (xs : List A) → ((x : A) → In x xs → t x ≡ false) → list_any t xs ≡ false
  none_from t [] each = refl
  none_from t (y ∷ ys) each = ap (λ b. b || list_any t ys) (each y (inl refl)) ∙ none_from t ys (λ x at. each x (inr at))

  none_at : (t : A → Bool) (x : A) (xs : List A) (b : Bool) → t x ≡ b → list_any t xs ≡ false → In x xs → b ≡ false
  none_at t x xs true is e at = absurd (true≢false (sym (in_any t x xs at is) ∙ e))
  none_at t x xs false is e at = refl

  pub fails_at : (t : A → Bool) (x : A) (xs : List A) → list_any t xs ≡ false → In x xs → t x ≡ false
  fails_at t x xs e at = none_at t x xs (t x) refl e at

  -- ---- filters

  pub in_filter : (t : A → Bool) (x : A) (xs : List A) → In x (filter t xs) → In x xs × (t x ≡ true)
  in_filter t x [] at = absurd at
  in_filter t x (y ∷ ys) at =
      elim (t y) as (λ b. t y ≡ b → In x (cond b (y ∷ filter t ys) (filter t ys)) → In x (y ∷ ys) × (t x ≡ true)) [
        | true ↦ λ e at. ⊎_elim
            (λ here. (inl here, subst (λ z. t z ≡ true) (sym here) e))
            (λ there. let found = in_filter t x ys there in (inr found.0, found.1))
            at
        | false ↦ λ e at. let found = in_filter t x ys at in (inr found.0, found.1)
      ] refl at

  pub filter_in : (t : A → Bool) (x : A) (xs : List A) → In x xs → t x ≡ true → In x (filter t xs)
  filter_in t x [] at e = absurd at
  filter_in t x (y ∷ ys) at e =
      elim (t y) as (λ b. t y ≡ b → In x (cond b (y ∷ filter t ys) (filter t ys))) [
        | true ↦ λ is. ⊎_elim (λ here. inl here) (λ there. inr (filter_in t x ys there e)) at
        | false ↦ λ is. ⊎_elim
            (λ here. absurd (true≢false (sym e ∙ ap t here ∙ is)))
            (λ there. filter_in t x ys there e)
            at
      ] refl

  -- a filter that all pass
  pub filter_all : (t : A → Bool) (xs : List A) → ((x : A) → In x xs → t x ≡ true) → filter t xs ≡ xs
  filter_all t [] each = refl
  filter_all t (y ∷ ys) each =
      ap (λ b. cond b (y ∷ filter t ys) (filter t ys)) (each y (inl refl)) ∙ ap (λ l. y ∷ l) (filter_all t ys (λ x at. each x (inr at)))

  -- ---- lists joined end to end

  pub in_append : (x : A) (xs ys : List A) → In x (xs ++ ys) → In x xs ⊎ In x ys
  in_append x [] ys at = inr at
  in_append x (z ∷ zs) ys at =
      ⊎_elim
      (λ here. inl (inl here))
      (λ there. ⊎_elim (λ left. inl (inr left)) (λ right. inr right) (in_append x zs ys there))
      at

  pub append_left : (x : A) (xs ys : List A) → In x xs → In x (xs ++ ys)
  append_left x [] ys at = absurd at
  append_left x (z ∷ zs) ys at = ⊎_elim (λ here. inl here) (λ there. inr (append_left x zs ys there)) at

  pub append_right : (x : A) (xs ys : List A) → In x ys → In x (xs ++ ys)
  append_right x [] ys at = at
  append_right x (z ∷ zs) ys at = inr (append_right x zs ys at)

  -- ---- std's words for what holds of each element, and for membership by index

  pub recursion_at : (P : A → Type 0) (x : A) (xs : List A) → AllByRecursion P xs → In x xs → P x
  recursion_at P x [] each at = absurd at
  recursion_at P x (y ∷ ys) each at =
      ⊎_elim (λ here. subst P (sym here) each.0) (λ there. recursion_at P x ys each.1 there) at

  pub recursion_from : (P : A → Type 0) (xs : List A) → ((x : A) → In x xs → P x) → AllByRecursion P xs
  recursion_from P [] each = tt
  recursion_from P (y ∷ ys) each = (each y (inl refl), recursion_from P ys (λ x at. each x (inr at)))

  pub all_elements_at : (P : A → Type 0) (x : A) (xs : List A) → All P xs → In x xs → P x
  all_elements_at P x [] each at = absurd at
  all_elements_at P x (y ∷ ys) each at =
      ⊎_elim (λ here. subst P (sym here) (All-head P y ys each)) (λ there. all_elements_at P x ys (All-tail P y ys each) there) at

  pub all_elements_from : (P : A → Type 0) (xs : List A) → ((x : A) → In x xs → P x) → All P xs
  all_elements_from P [] each = All-nil P
  all_elements_from P (y ∷ ys) each = All-cons P y ys (each y (inl refl)) (all_elements_from P ys (λ x at. each x (inr at)))

  pub in_at : (xs : List A) (i : ℕ) (x : A) → slice_get xs i ≡ Some x → In x xs
  in_at [] i x e = absurd (true≢false (ap some_at e))
    where
      some_at : Option A → Bool
      some_at None = true
      some_at (Some y) = false
  in_at (y ∷ ys) zero x e = inl (sym (ap (unwrap y) e))
    where
      unwrap : A → Option A → A
      unwrap d None = d
      unwrap d (Some z) = z
  in_at (y ∷ ys) (suc i) x e = inr (in_at ys i x e)

  -- the element at an index below the length
  pub in_get_or : (xs : List A) (i : ℕ) (d : A) → i < length xs → In (get_or xs i d) xs
  in_get_or [] i d h = absurd (omega arith)
  in_get_or (y ∷ ys) zero d h = inl refl
  in_get_or (y ∷ ys) (suc i) d h = inr (in_get_or ys i d (omega arith))

  -- the index at which an element stands
  pub at_in : (xs : List A) (x : A) → In x xs → (i : ℕ) × (slice_get xs i ≡ Some x) × (i < length xs)
  at_in [] x at = absurd at
  at_in (y ∷ ys) x at =
      ⊎_elim
      (λ here. (0, ap Some (sym here), omega arith))
      (λ there. let found = at_in ys x there in let below = found.2 in (suc found.0, found.1, omega arith))
      at

  pub contains_from_in : (x : A) (xs : List A) → In x xs → Contains xs x
  contains_from_in x xs at =
      let found = at_in xs x at in
      (found.0, found.2, sym (unwrap_or-slice_get xs found.0 x) ∙ ap (λ o. unwrap_or o x) found.1)

  pub in_from_contains : (x : A) (xs : List A) → Contains xs x → In x xs
  in_from_contains x xs at = subst (λ y. In y xs) at.2 (in_get_or xs at.0 x at.1)

module _ {A B : Type 0} where
  pub in_map : (f : A → B) (y : B) (xs : List A) → In y (map f xs) → (x : A) × In x xs × (y ≡ f x)
  in_map f y [] at = absurd at
  in_map f y (x ∷ xs) at =
      ⊎_elim
      (λ here. (x, inl refl, here))
      (λ there. let found = in_map f y xs there in (found.0, inr found.1, found.2))
      at

  pub map_in : (f : A → B) (x : A) (xs : List A) → In x xs → In (f x) (map f xs)
  map_in f x [] at = absurd at
  map_in f x (y ∷ ys) at = ⊎_elim (λ here. inl (ap f here)) (λ there. inr (map_in f x ys there)) at

  pub in_flat : (f : A → List B) (y : B) (xs : List A) → In y (flat_map f xs) → (x : A) × In x xs × In y (f x)
  in_flat f y [] at = absurd at
  in_flat f y (x ∷ xs) at =
      ⊎_elim
      (λ here. (x, inl refl, here))
      (λ there. let found = in_flat f y xs there in (found.0, inr found.1, found.2))
      (in_append y (f x) (flat_map f xs) at)

  pub flat_in : (f : A → List B) (y : B) (x : A) (xs : List A) → In x xs → In y (f x) → In y (flat_map f xs)
  flat_in f y x [] at here = absurd at
  flat_in f y x (z ∷ zs) at within =
      ⊎_elim
      (λ here. append_left y (f z) (flat_map f zs) (subst (λ w. In y (f w)) here within))
      (λ there. append_right y (f z) (flat_map f zs) (flat_in f y x zs there within))
      at

  pub any_map : (t : B → Bool) (f : A → B) (xs : List A) → list_any t (map f xs) ≡ list_any (λ x. t (f x)) xs
  any_map t f [] = refl
  any_map t f (x ∷ xs) = ap (λ b. t (f x) || b) (any_map t f xs)
