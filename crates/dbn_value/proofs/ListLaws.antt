-- Lists one element at a time: prefixes, places and what holds of each element.
use Rattle.std.proofs.Common.{arith, ◌≡◌, ◌+◌, ◌<◌, ◌++◌, ℕ, Bool, true, false, not, ◌||◌, cond, nat_lt, List, [], ◌∷◌, length, map, take, drop, get_or, Some, None, refl, ap, zero, suc, ◌∙◌, inl, inr}
use Rattle.std.specs.List.{AllByRecursion, list_any, position, prefix_len}
use Rattle.std.proofs.lemmas.Grind.{common_steps}
use borrow.Author.Tests.{lt-ltb}
use Rattle.std.proofs.lemmas.List.{length-map, length-append}
use Rattle.dbn_value.specs.Members.{In}

pub take_more : {A : Type 0} (xs : List A) (i : ℕ) (x : A) → i < length xs → x ≡ get_or xs i x → take (i + 1) xs ≡ take i xs ++ x ∷ []
take_more xs i x l e = grind (arith, common_steps)

pub whole : {A : Type 0} (xs : List A) (i : ℕ) (x : A) → i < length xs → x ≡ get_or xs i x → xs ≡ take i xs ++ x ∷ drop (i + 1) xs
whole xs i x l e = grind (arith, common_steps)

pub in_at : {A : Type 0} (xs : List A) (i : ℕ) (x : A) → i < length xs → x ≡ get_or xs i x → In x xs
in_at [] i x l e = absurd (omega arith)
in_at (y ∷ xs) zero x l e = inl e
in_at (y ∷ xs) (suc i) x l e = inr (in_at xs i x (omega arith) e)

module _ {A : Type 0} where
  pub all_append : (P : A → Type 0) (xs ys : List A) → AllByRecursion P xs → AllByRecursion P ys → AllByRecursion P (xs ++ ys)
  all_append P [] ys a b = b
  all_append P (x ∷ xs) ys a b = (a.0, all_append P xs ys a.1 b)

  pub all_more : (P Q : A → Type 0) → ((x : A) → P x → Q x) → (xs : List A) → AllByRecursion P xs → AllByRecursion Q xs
  all_more P Q more [] a = tt
  all_more P Q more (x ∷ xs) a = (more x a.0, all_more P Q more xs a.1)

  first_len : (p : A → Bool) (front : List A) (x : A) (rest : List A) → list_any p front ≡ false → p x ≡ true → prefix_len (λ y. not (p y)) (front ++ x ∷ rest) ≡ length front
  first_len p [] x rest none is = ap (λ b. cond (not b) (1 + prefix_len (λ y. not (p y)) rest) 0) is
  first_len p (y ∷ front) x rest none is =
      elim (p y) as (λ b. (b || list_any p front) ≡ false → cond (not b) (1 + prefix_len (λ z. not (p z)) (front ++ x ∷ rest)) 0 ≡ suc (length front)) [
        | true ↦ λ e. cc
        | false ↦ λ e.
            let later : prefix_len (λ z. not (p z)) (front ++ x ∷ rest) ≡ length front = first_len p front x rest e is in
            omega (arith, later)
      ] none

  -- the place of the first element that passes
  pub position_at : (p : A → Bool) (front : List A) (x : A) (rest : List A) → list_any p front ≡ false → p x ≡ true → position p (front ++ x ∷ rest) ≡ Some (length front)
  position_at p front x rest none is =
      let long : length (front ++ x ∷ rest) ≡ length front + length (x ∷ rest) = length-append front (x ∷ rest) in
      let inside : length front < length (front ++ x ∷ rest) = omega (arith, long) in
      ap (λ n. cond (nat_lt n (length (front ++ x ∷ rest))) (Some n) None) (first_len p front x rest none is)
      ∙ ap (λ b. cond b (Some (length front)) None) (lt-ltb (length front) (length (front ++ x ∷ rest)) inside)

prefix_map : {A B : Type 0} (p : B → Bool) (f : A → B) (xs : List A) → prefix_len p (map f xs) ≡ prefix_len (λ x. p (f x)) xs
prefix_map p f [] = refl
prefix_map p f (x ∷ xs) = ap (λ n. cond (p (f x)) (1 + n) 0) (prefix_map p f xs)

-- the place in a list of images
pub position_map : {A B : Type 0} (p : B → Bool) (f : A → B) (xs : List A) → position p (map f xs) ≡ position (λ x. p (f x)) xs
position_map p f xs =
    ap (λ n. cond (nat_lt n (length (map f xs))) (Some n) None) (prefix_map (λ y. not (p y)) f xs)
    ∙ ap (λ n. cond (nat_lt (prefix_len (λ x. not (p (f x))) xs) n) (Some (prefix_len (λ x. not (p (f x))) xs)) None) (length-map xs f)
