-- Tests of truth, and tests over lists that agree on each element.
use Rattle.std.proofs.Common.{◌≡◌, Bool, true, false, cond, not, ◌&&◌, ◌||◌, List, [], ◌∷◌, refl, ap, sym, ◌∙◌}
use Rattle.std.specs.List.{list_any, list_all, filter, AllByRecursion}

pub not_not : (b : Bool) → not (not b) ≡ b
not_not true = refl
not_not false = refl

pub not_and : (a b : Bool) → not (a && b) ≡ (not a || not b)
not_and true b = refl
not_and false b = refl

pub not_or : (a b : Bool) → not (a || b) ≡ (not a && not b)
not_or true b = refl
not_or false b = refl

module _ {A : Type 0} where
  pub any_alike : (p q : A → Bool) (xs : List A) → AllByRecursion (λ x. p x ≡ q x) xs → list_any p xs ≡ list_any q xs
  any_alike p q [] each = refl
  any_alike p q (x ∷ xs) each = ap (λ b. b || list_any p xs) each.0 ∙ ap (λ b. q x || b) (any_alike p q xs each.1)

  pub all_alike : (p q : A → Bool) (xs : List A) → AllByRecursion (λ x. p x ≡ q x) xs → list_all p xs ≡ list_all q xs
  all_alike p q [] each = refl
  all_alike p q (x ∷ xs) each = ap (λ b. b && list_all p xs) each.0 ∙ ap (λ b. q x && b) (all_alike p q xs each.1)

  pub any_denied : (p q : A → Bool) (xs : List A) → AllByRecursion (λ x. p x ≡ not (q x)) xs → list_any p xs ≡ not (list_all q xs)
  any_denied p q [] each = refl
  any_denied p q (x ∷ xs) each =
      ap (λ b. b || list_any p xs) each.0 ∙ ap (λ b. not (q x) || b) (any_denied p q xs each.1) ∙ sym (not_and (q x) (list_all q xs))

  pub all_denied : (p q : A → Bool) (xs : List A) → AllByRecursion (λ x. p x ≡ not (q x)) xs → list_all p xs ≡ not (list_any q xs)
  all_denied p q [] each = refl
  all_denied p q (x ∷ xs) each =
      ap (λ b. b && list_all p xs) each.0 ∙ ap (λ b. not (q x) && b) (all_denied p q xs each.1) ∙ sym (not_or (q x) (list_any q xs))

  -- what is known of every element is known of each element of a list
  pub everywhere : (P : A → Type 0) → ((x : A) → P x) → (xs : List A) → AllByRecursion P xs
  everywhere P each [] = tt
  everywhere P each (x ∷ xs) = (each x, everywhere P each xs)

  pub each_of : {P Q : A → Type 0} → ((x : A) → P x → Q x) → (xs : List A) → AllByRecursion P xs → AllByRecursion Q xs
  each_of f [] each = tt
  each_of f (x ∷ xs) each = (f x each.0, each_of f xs each.1)

  pub filter_alike : (p q : A → Bool) → ((x : A) → p x ≡ q x) → (xs : List A) → filter p xs ≡ filter q xs
  filter_alike p q same [] = refl
  filter_alike p q same (x ∷ xs) = ap (λ b. cond b (x ∷ filter p xs) (filter p xs)) (same x) ∙ ap (λ ys. cond (q x) (x ∷ ys) ys) (filter_alike p q same xs)
