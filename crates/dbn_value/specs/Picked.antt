-- Columns of a row.
use Rattle.std.specs.Prelude.{ℕ, List, slice_get}
use Rattle.std.specs.List.{filter_map}

-- the cells at these columns, in the order of the columns; a column past the end gives none
abbrev pub picked : {C : Type 0} → List ℕ → List C → List C
picked columns row = filter_map (slice_get row) columns
