-- What a node is worth: an ascending list of rows, computed from the rows of its inputs. R is the order of cells.
use Rattle.std.specs.Prelude.{ℕ, Bool, false, not, List, [], ◌∷◌, ◌++◌, map, Option, Some, None, slice_get}
use Rattle.std.specs.declared.cmp.Ordering.{Ordering}
use Rattle.std.specs.Cmp.Lexicographic.{slice_cmp}
use Rattle.std.specs.List.{list_all, filter, flat_map}
use Rattle.dbn_value.specs.Ascending.{ascending}
use Rattle.dbn_value.specs.Order.{meets}
use Rattle.dbn_value.specs.Picked.{picked}
use Rattle.dbn_value.specs.declared.term.Cmp.{Cmp}
use Rattle.dbn_value.specs.declared.term.Cmp.TheVariants as cmp
use Rattle.dbn_nodes.specs.declared.node.ColTest.{ColTest}
use Rattle.dbn_nodes.specs.declared.node.ColTest.TheVariants as test
use Rattle.dbn_nodes.specs.declared.node.Added.{Added}
use Rattle.dbn_nodes.specs.declared.node.Added.TheVariants as added
use Rattle.dbn_nodes.specs.declared.node.Node.{Node}
use Rattle.dbn_nodes.specs.declared.node.Node.TheVariants as node
use Rattle.dbn_nodes.specs.Tables.{has}

-- the cell that a row gets as its last one
abbrev pub added_cells : {C : Type 0} → Added C → List C → List C
added_cells (added.Copied col) row = picked (col ∷ []) row
added_cells (added.Constant cell) row = cell ∷ []

module _ {C : Type 0} (R : C → C → Ordering) where
  -- two cells compare so; a cell that isn't there never does
  abbrev pub cells_meet : Cmp → Option C → Option C → Bool
  cells_meet c (Some a) (Some b) = meets c (R a b)
  cells_meet c (Some a) None = false
  cells_meet c None b = false

  -- the row meets the test
  abbrev pub passes : List C → ColTest C → Bool
  passes row (test.Columns c left right) = cells_meet c (slice_get row left) (slice_get row right)
  passes row (test.Constant c col cell) = cells_meet c (slice_get row col) (Some cell)

  -- the cells of all pairs of columns are the same
  abbrev pub matched : List (ℕ × ℕ) → List C → List C → Bool
  matched on a b = list_all (λ pair. cells_meet cmp.Eq (slice_get a pair.0) (slice_get b pair.1)) on

  abbrev pub selected : List (ColTest C) → List (List C) → List (List C)
  selected tests rows = filter (λ row. list_all (passes row) tests) rows

  abbrev pub joined : List (ℕ × ℕ) → List (List C) → List (List C) → List (List C)
  joined on ls rs = ascending (slice_cmp R) (flat_map (λ a. map (λ b. a ++ b) (filter (matched on a) rs)) ls)

  abbrev pub without : List (List C) → List (List C) → List (List C)
  without ls rs = filter (λ row. not (has (slice_cmp R) rs row)) ls

  abbrev pub projected : List ℕ → List (List C) → List (List C)
  projected cols rows = ascending (slice_cmp R) (map (picked cols) rows)

  abbrev pub either : List (List C) → List (List C) → List (List C)
  either ls rs = ascending (slice_cmp R) (ls ++ rs)

  abbrev pub extended : Added C → List (List C) → List (List C)
  extended with rows = ascending (slice_cmp R) (map (λ row. row ++ added_cells with row) rows)

  -- the rows of a node over those of its left and its right input; the feed of a scan, and the one input of other nodes, is the left one
  abbrev pub value_of : Node C → List (List C) → List (List C) → List (List C)
  value_of node.Unit s t = [] ∷ []
  value_of (node.Scan feed) s t = s
  value_of (node.Select from tests) s t = selected tests s
  value_of (node.Join left right on) s t = joined on s t
  value_of (node.Diff left right) s t = without s t
  value_of (node.Project from cols) s t = projected cols s
  value_of (node.Union left right) s t = either s t
  value_of (node.Extend from with) s t = extended with s
