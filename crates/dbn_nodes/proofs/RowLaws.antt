-- Columns taken one at a time.
use Rattle.std.proofs.Common.{arith, ◌≡◌, ◌+◌, ◌<◌, ◌++◌, ℕ, List, [], ◌∷◌, map, length, get_or, take, slice_get, refl, ap, ◌∙◌}
use Rattle.std.specs.List.{cons_option}
use Rattle.std.proofs.lemmas.List.{map-append}
use Rattle.std.proofs.lemmas.List.Elements.{filter_map-append}
use Rattle.std.proofs.lemmas.Grind.{common_steps}
use Rattle.dbn_value.specs.Picked.{picked}

one_more : {A : Type 0} (xs : List A) (i : ℕ) (d : A) → i < length xs → take (i + 1) xs ≡ take i xs ++ get_or xs i d ∷ []
one_more xs i d l = grind (arith, common_steps)

pub one_column : {C : Type 0} (columns : List ℕ) (row : List C) (i d : ℕ) → i < length columns → picked (take (i + 1) columns) row ≡ picked (take i columns) row ++ cons_option (slice_get row (get_or columns i d)) []
one_column columns row i d l =
    ap (λ cs. picked cs row) (one_more columns i d l)
    ∙ filter_map-append (slice_get row) (take i columns) (get_or columns i d ∷ [])

pub one_pair : {C : Type 0} (f : ℕ × ℕ → ℕ) (on : List (ℕ × ℕ)) (row : List C) (i : ℕ) (d : ℕ × ℕ) → i < length on
    → picked (map f (take (i + 1) on)) row ≡ picked (map f (take i on)) row ++ cons_option (slice_get row (f (get_or on i d))) []
one_pair f on row i d l =
    ap (λ ps. picked (map f ps) row) (one_more on i d l)
    ∙ ap (λ cs. picked cs row) (map-append f (take i on) (get_or on i d ∷ []))
    ∙ filter_map-append (slice_get row) (map f (take i on)) (f (get_or on i d) ∷ [])

pub nothing_more : {A : Type 0} (xs : List A) → xs ≡ xs ++ []
nothing_more [] = refl
nothing_more (x ∷ xs) = ap (λ ys. x ∷ ys) (nothing_more xs)
