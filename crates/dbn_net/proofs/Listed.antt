-- Laws of lists and options that the other files here rest on.
use Rattle.std.proofs.Common.{◌≡◌, ℕ, ◌<◌, zero, suc, Bool, true, false, cond, ◌&&◌, List, [], ◌∷◌, ◌++◌, map, refl, sym, ap, ◌∙◌, inl, inr, ⊎_elim, Option, Some, None, arith, length}
use Rattle.std.specs.Prelude.{slice_index_or, slice_get}
use Rattle.std.specs.List.{list_all, flat_map, filter, filter_map, cons_option}
use Rattle.std.specs.Option.{option_map_or}
use Rattle.std.proofs.lemmas.List.{map-append}
use Rattle.dbn_value.specs.Members.{In}
use Rattle.dbn_net.specs.Maybe.{◌>>=◌, each, if_given}
use Rattle.dbn_net.proofs.Maybes.{some_is, first_found}

-- what is made of each passes, where what is made of any does
pub each_all : {A B : Type 0} (f : A → Option B) (ok : B → Bool) → ((x : A) (y : B) → f x ≡ Some y → ok y ≡ true)
    → (xs : List A) (ys : List B) → each f xs ≡ Some ys → list_all ok ys ≡ true
each_all f ok fits [] ys e = ap (list_all ok) (sym (some_is [] ys e))
each_all f ok fits (x ∷ xs) ys e =
    let (y, is, rest) = first_found (f x) (λ z. each f xs >>= λ zs. Some (z ∷ zs)) ys e in
    let (zs, are, made) = first_found (each f xs) (λ zs. Some (y ∷ zs)) ys rest in
    ap (list_all ok) (sym (some_is (y ∷ zs) ys made)) ∙ ap (λ b. b && list_all ok zs) (fits x y is) ∙ each_all f ok fits xs zs are

-- what stands in all that is made is what stands in all that it was made of
pub each_flat : {A B C : Type 0} (f : A → Option B) (g : B → List C) (h : A → List C) → ((x : A) (y : B) → f x ≡ Some y → g y ≡ h x)
    → (xs : List A) (ys : List B) → each f xs ≡ Some ys → flat_map g ys ≡ flat_map h xs
each_flat f g h same [] ys e = ap (flat_map g) (sym (some_is [] ys e))
each_flat f g h same (x ∷ xs) ys e =
    let (y, is, rest) = first_found (f x) (λ z. each f xs >>= λ zs. Some (z ∷ zs)) ys e in
    let (zs, are, made) = first_found (each f xs) (λ zs. Some (y ∷ zs)) ys rest in
    ap (flat_map g) (sym (some_is (y ∷ zs) ys made)) ∙ ap (λ l. l ++ flat_map g zs) (same x y is) ∙ ap (λ l. h x ++ l) (each_flat f g h same xs zs are)

pub given_all : {A B : Type 0} (f : A → Option B) (ok : B → Bool) → ((x : A) (y : B) → f x ≡ Some y → ok y ≡ true)
    → (o : Option A) (r : Option B) → if_given f o ≡ Some r → option_map_or ok r true ≡ true
given_all f ok fits None r e = ap (λ q. option_map_or ok q true) (sym (some_is None r e))
given_all f ok fits (Some x) r e =
    let (y, is, made) = first_found (f x) (λ z. Some (Some z)) r e in
    ap (λ q. option_map_or ok q true) (sym (some_is (Some y) r made)) ∙ fits x y is

-- what is left by `filter_map` was made of something in the list
pub in_filter_map : {A B : Type 0} (f : A → Option B) (y : B) (xs : List A) → In y (filter_map f xs) → (x : A) × In x xs × (f x ≡ Some y)
in_filter_map f y [] at = absurd at
in_filter_map {A} f y (x ∷ xs) at = by (f x) refl at (λ rest. in_filter_map f y xs rest)
  where
    by : (o : Option _) → f x ≡ o → In y (cons_option o (filter_map f xs)) → (In y (filter_map f xs) → (z : A) × In z xs × (f z ≡ Some y)) → (z : A) × In z (x ∷ xs) × (f z ≡ Some y)
    by None e there rest = let found = rest there in (found.0, inr found.1, found.2)
    by (Some w) e there rest = ⊎_elim (λ here. (x, inl refl, e ∙ ap Some (sym here))) (λ later. let found = rest later in (found.0, inr found.1, found.2)) there

pub map_flat : {A B C : Type 0} (f : B → C) (g : A → List B) (h : A → List C) → ((x : A) → map f (g x) ≡ h x) → (xs : List A) → map f (flat_map g xs) ≡ flat_map h xs
map_flat f g h same [] = refl
map_flat f g h same (x ∷ xs) = map-append f (g x) (flat_map g xs) ∙ ap (λ l. l ++ map f (flat_map g xs)) (same x) ∙ ap (λ l. h x ++ l) (map_flat f g h same xs)

pub map_filter : {A B : Type 0} (f : A → B) (t : B → Bool) (xs : List A) → map f (filter (λ x. t (f x)) xs) ≡ filter t (map f xs)
map_filter f t [] = refl
map_filter f t (x ∷ xs) = by (t (f x)) (map_filter f t xs)
  where
    by : (b : Bool) → map f (filter (λ y. t (f y)) xs) ≡ filter t (map f xs)
        → map f (cond b (x ∷ filter (λ y. t (f y)) xs) (filter (λ y. t (f y)) xs)) ≡ cond b (f x ∷ filter t (map f xs)) (filter t (map f xs))
    by true rest = ap (λ l. f x ∷ l) rest
    by false rest = rest

-- ---- old numbers in longer lists

pub index_kept : {A : Type 0} (xs ys : List A) (n : ℕ) (d : A) → n < length xs → slice_index_or (xs ++ ys) n d ≡ slice_index_or xs n d
index_kept [] ys n d less = absurd (omega (arith, less))
index_kept (x ∷ xs) ys zero d less = refl
index_kept (x ∷ xs) ys (suc n) d less = index_kept xs ys n d (omega (arith, less))

pub get_kept : {A : Type 0} (xs ys : List A) (n : ℕ) (x : A) → slice_get xs n ≡ Some x → slice_get (xs ++ ys) n ≡ Some x
get_kept [] ys n x is = absurd cc
get_kept (z ∷ xs) ys zero x is = is
get_kept (z ∷ xs) ys (suc n) x is = get_kept xs ys n x is

pub get_within : {A : Type 0} (xs : List A) (n : ℕ) (x : A) → slice_get xs n ≡ Some x → n < length xs
get_within [] n x is = absurd cc
get_within (z ∷ xs) zero x is = omega arith
get_within (z ∷ xs) (suc n) x is = let h = get_within xs n x is in omega (arith, h)

-- ---- lists that are equal

pub heads : {A : Type 0} (a b : A) (as' bs : List A) → (a ∷ as') ≡ (b ∷ bs) → a ≡ b
heads a b as' bs e = cc

pub tails : {A : Type 0} (a b : A) (as' bs : List A) → (a ∷ as') ≡ (b ∷ bs) → as' ≡ bs
tails a b as' bs e = cc
