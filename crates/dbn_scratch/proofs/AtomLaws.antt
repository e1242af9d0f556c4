-- Relations that there are not have no rows.
use Rattle.std.proofs.Common.{arith, ◌≡◌, ℕ, zero, suc, ◌≤◌, List, [], ◌∷◌, length, refl}
use Rattle.std.specs.Prelude.{slice_index_or}

pub no_rows : {A : Type 0} (db : List (List A)) (rel : ℕ) → length db ≤ rel → slice_index_or db rel [] ≡ []
no_rows [] rel past = refl
no_rows (rows ∷ db) zero past = absurd (omega (arith, past))
no_rows (rows ∷ db) (suc rel) past = no_rows db rel (omega (arith, past))
