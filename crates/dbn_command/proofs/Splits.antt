-- Lists that are split at elements that pass a test.
use Rattle.std.proofs.Common.{◌≡◌, Bor, Bool, true, false, ◌||◌, cond, List, [], ◌∷◌, ◌++◌, map, refl, ap, ◌∙◌}
use Rattle.std.specs.List.{list_any, slice_split, onto_first}

map_onto : {A B : Type 0} (f : A → B) (x : A) (parts : List (List A)) → map (map f) (onto_first x parts) ≡ onto_first (f x) (map (map f) parts)
map_onto f x [] = refl
map_onto f x (p ∷ ps) = refl

-- seen by a view
pub split_map : {A B : Type 0} (f : A → B) (test : B → Bool) (xs : List A) → map (map f) (slice_split (λ x. test (f x)) xs) ≡ slice_split test (map f xs)
split_map f test [] = refl
split_map f test (x ∷ xs) =
    let rest = slice_split (λ y. test (f y)) xs in
    let seen = slice_split test (map f xs) in
    elim (test (f x)) as (λ b. map (map f) (cond b ([] ∷ rest) (onto_first x rest)) ≡ cond b ([] ∷ seen) (onto_first (f x) seen)) [
      | true ↦ ap (λ ps. [] ∷ ps) (split_map f test xs)
      | false ↦ map_onto f x rest ∙ ap (onto_first (f x)) (split_map f test xs)
    ]

or_none : (a b : Bool) → (a || b) ≡ false → (a ≡ false) × (b ≡ false)
or_none true b e = cc
or_none false b e = (refl, e)

module _ {A : Type 0} (test : A → Bool) where
  pub one_part : (xs : List A) → list_any test xs ≡ false → slice_split test xs ≡ xs ∷ []
  one_part [] none = refl
  one_part (x ∷ xs) none =
      let (here, later) = or_none (test x) (list_any test xs) none in
      ap (λ b. cond b ([] ∷ slice_split test xs) (onto_first x (slice_split test xs))) here ∙ ap (onto_first x) (one_part xs later)

  pub first_part : (xs : List A) (y : A) (rest : List A) → list_any test xs ≡ false → test y ≡ true → slice_split test (xs ++ y ∷ rest) ≡ xs ∷ slice_split test rest
  first_part [] y rest none is = ap (λ b. cond b ([] ∷ slice_split test rest) (onto_first y (slice_split test rest))) is
  first_part (x ∷ xs) y rest none is =
      let (here, later) = or_none (test x) (list_any test xs) none in
      ap (λ b. cond b ([] ∷ slice_split test (xs ++ y ∷ rest)) (onto_first x (slice_split test (xs ++ y ∷ rest)))) here ∙ ap (onto_first x) (first_part xs y rest later is)

-- parts of a list, each seen by a view
map_parts : {A B : Type 0} (f : A → B) (parts : List (Bor (List A))) → map (λ part. map f part.now) parts ≡ map (map f) (map (λ part. part.now) parts)
map_parts f [] = refl
map_parts f (part ∷ parts) = ap (λ ps. map f part.now ∷ ps) (map_parts f parts)

pub parts_seen : {A B : Type 0} (f : A → B) (test : B → Bool) (parts : List (Bor (List A))) (xs : List A) → map (λ part. part.now) parts ≡ slice_split (λ x. test (f x)) xs
    → map (λ part. map f part.now) parts ≡ slice_split test (map f xs)
parts_seen f test parts xs same = map_parts f parts ∙ ap (map (map f)) same ∙ split_map f test xs
