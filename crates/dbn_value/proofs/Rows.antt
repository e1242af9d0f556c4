-- Columns taken one at a time.
use Rattle.std.proofs.Common.{arith, ◌≡◌, ◌+◌, ◌<◌, ◌++◌, ℕ, List, [], ◌∷◌, length, get_or, take, Some, slice_get, ap, ◌∙◌}
use Rattle.std.specs.List.{cons_option}
use Rattle.std.proofs.lemmas.List.Elements.{filter_map-append}
use Rattle.std.proofs.lemmas.Grind.{common_steps}
use Rattle.dbn_value.specs.Picked.{picked}

one_more : (xs : List ℕ) (i : ℕ) → i < length xs → take (i + 1) xs ≡ take i xs ++ get_or xs i 0 ∷ []
one_more xs i l = grind (arith, common_steps)

pub picked_more : {C : Type 0} (columns : List ℕ) (row : List C) (i : ℕ) (cell : C) → i < length columns → slice_get row (get_or columns i 0) ≡ Some cell → picked (take (i + 1) columns) row ≡ picked (take i columns) row ++ cell ∷ []
picked_more columns row i cell l e =
    ap (λ cs. picked cs row) (one_more columns i l)
    ∙ filter_map-append (slice_get row) (take i columns) (get_or columns i 0 ∷ [])
    ∙ ap (λ o. picked (take i columns) row ++ cons_option o []) e
