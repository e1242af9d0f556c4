-- What keys and foreign keys say of rows.
use Rattle.std.specs.Prelude.{◌≡◌, ℕ, List, [], map, Option, slice_get, slice_index_or}
use Rattle.dbn_value.specs.Members.{In}
use Rattle.dbn_value.specs.declared.value.Value.{Value}
use Rattle.dbn_formula.specs.Holds.{Instance}

-- the cells of a row in these columns
abbrev pub cells_at : List ℕ → List Value → List (Option Value)
cells_at fields row = map (slice_get row) fields

abbrev pub IsRowOf : Instance → ℕ → List Value → Type 0
IsRowOf db rel row = In row (slice_index_or db rel [])

-- two rows of the relation that have the same cells in these columns are one
abbrev pub IsKey : Instance → ℕ → List ℕ → Type 0
IsKey db rel fields = (a b : List Value) → IsRowOf db rel a → IsRowOf db rel b → cells_at fields a ≡ cells_at fields b → a ≡ b

-- for each row of the first relation there is a row of the second one with the same cells in the paired columns
abbrev pub IsForeignKey : Instance → ℕ → List ℕ → ℕ → List ℕ → Type 0
IsForeignKey db rel fields to to_fields = (a : List Value) → IsRowOf db rel a → (b : List Value) × IsRowOf db to b × (cells_at fields a ≡ cells_at to_fields b)
