-- What follows where an option has a value.
use Rattle.std.proofs.Common.{◌≡◌, Bool, true, false, if◌then◌else◌, List, [], ◌∷◌, map, refl, sym, ap, ◌∙◌, ◌⊎◌, inl, inr, Option, Some, None}
use Rattle.std.specs.Option.{option_map}
use Rattle.std.specs.List.{list_all}
use Rattle.std.proofs.lemmas.Bool.{and_parts}
use Rattle.dbn_net.specs.Maybe.{◌>>=◌, each, some, if_given, or_else}

pub some_is : {A : Type 0} (x y : A) → Some x ≡ Some y → x ≡ y
some_is x y e = cc

pub first_found : {A B : Type 0} (o : Option A) (f : A → Option B) (y : B) → (o >>= f) ≡ Some y → (x : A) × (o ≡ Some x) × (f x ≡ Some y)
first_found None f y e = absurd cc
first_found (Some x) f y e = (x, refl, e)

pub if_found : {A : Type 0} (b : Bool) (o : Option A) (y : A) → (if b then o else None) ≡ Some y → (b ≡ true) × (o ≡ Some y)
if_found true o y e = (refl, e)
if_found false o y e = absurd cc

pub if_either : {A : Type 0} (b : Bool) (o p : Option A) (y : A) → (if b then o else p) ≡ Some y → ((b ≡ true) × (o ≡ Some y)) ⊎ ((b ≡ false) × (p ≡ Some y))
if_either true o p y e = inl (refl, e)
if_either false o p y e = inr (refl, e)

pub mapped_found : {A B : Type 0} (f : A → B) (o : Option A) (y : B) → option_map f o ≡ Some y → (x : A) × (o ≡ Some x) × (f x ≡ y)
mapped_found f None y e = absurd cc
mapped_found f (Some x) y e = (x, refl, some_is (f x) y e)

pub or_found : {A : Type 0} (a b : Option A) (y : A) → or_else a b ≡ Some y → (a ≡ Some y) ⊎ (b ≡ Some y)
or_found None b y e = inr e
or_found (Some x) b y e = inl e

pub some_same : {A : Type 0} (xs ys : List A) → some xs ≡ Some ys → xs ≡ ys
some_same [] ys e = absurd cc
some_same (x ∷ xs) ys e = some_is (x ∷ xs) ys e

-- what is made of each is again what it was, where each that passes is
pub each_again : {A B : Type 0} (f : A → Option B) (g : B → A) (ok : B → Bool) → ((x : A) (y : B) → f x ≡ Some y → ok y ≡ true → g y ≡ x)
    → (xs : List A) (ys : List B) → each f xs ≡ Some ys → list_all ok ys ≡ true → map g ys ≡ xs
each_again f g ok again [] ys e all = ap (map g) (sym (some_is [] ys e))
each_again f g ok again (x ∷ xs) ys e all =
    let (y, is, rest) = first_found (f x) (λ z. each f xs >>= λ zs. Some (z ∷ zs)) ys e in
    let (zs, are, made) = first_found (each f xs) (λ zs. Some (y ∷ zs)) ys rest in
    let passed = and_parts (ok y) (list_all ok zs) (ap (list_all ok) (some_is (y ∷ zs) ys made) ∙ all) in
    ap (map g) (sym (some_is (y ∷ zs) ys made)) ∙ ap (λ w. w ∷ map g zs) (again x y is passed.0) ∙ ap (λ ws. x ∷ ws) (each_again f g ok again xs zs are passed.1)

pub always_true : {A : Type 0} (xs : List A) → list_all (λ x. true) xs ≡ true
always_true [] = refl
always_true (x ∷ xs) = always_true xs

pub given_again : {A B : Type 0} (f : A → Option B) (g : B → A) → ((x : A) (y : B) → f x ≡ Some y → g y ≡ x) → (o : Option A) (r : Option B) → if_given f o ≡ Some r → option_map g r ≡ o
given_again {B = B} f g again None r e = ap (option_map g) (sym (some_is None r e))
given_again {B = B} f g again (Some x) r e =
    let (y, is, made) = mapped_found (λ z. Some z) (f x) r (as_map (f x) e) in
    ap (option_map g) (sym made) ∙ ap (λ z. Some z) (again x y is)
  where
    as_map : (o : Option B) → (o >>= λ y. Some (Some y)) ≡ Some r → option_map (λ z. Some z) o ≡ Some r
    as_map None e = absurd cc
    as_map (Some y) e = e
