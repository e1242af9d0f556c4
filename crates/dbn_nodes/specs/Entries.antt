-- The entries of a shelf.
use Rattle.std.specs.Prelude.{ℕ, List, [], ◌∷◌}
use Rattle.dbn_nodes.specs.declared.shelf.Inner.{Inner}
use Rattle.dbn_nodes.specs.declared.shelf.Inner.TheVariants as inner

-- the rows with their counts
abbrev pub entries_in : {C : Type 0} → Inner C → List (List C × ℕ)
entries_in (inner.One row many) = (row, many) ∷ []
entries_in (inner.Many rows) = rows.entries
