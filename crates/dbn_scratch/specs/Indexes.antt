-- Rows of a relation by their cells at some of its columns. Columns are given by marks, one for each column from the first on.
use Rattle.std.specs.Global.{Vec}
use Rattle.std.specs.Borrow.{Bor}
use Rattle.std.specs.Prelude.{◌≡◌, ℕ, Bool, if◌then◌else◌, List, [], ◌∷◌, map, Option, Some, None, IfSome, slice_index_or}
use Rattle.std.specs.declared.cmp.Ordering.{Ordering}
use Rattle.std.specs.Ordering.{nat_cmp, bool_cmp, ordering_then}
use Rattle.std.specs.Cmp.Lexicographic.{slice_cmp}
use Rattle.std.specs.List.{filter}
use Rattle.std.specs.Map.{lookup}
use Rattle.std.specs.BTreeMap.{BTreeMap, is_at}
use Rattle.dbn_value.specs.Order.{row_cmp}
use Rattle.dbn_value.specs.declared.value.Value.{Value}

-- the cells at the marked columns
abbrev pub key_of : List Bool → List Value → List Value
key_of [] row = []
key_of (mark ∷ marks) [] = []
key_of (mark ∷ marks) (v ∷ row) = if mark then v ∷ key_of marks row else key_of marks row

-- whether these are the cells of the row there
abbrev pub has_key : List Bool → List Value → List Value → Bool
has_key marks key row = is_at (row_cmp (key_of marks row)) key

abbrev pub shown : List (Bor (List Value)) → List (List Value)
shown rows = map (λ r. r.now) rows

-- ---- one index: rows under keys

abbrev pub Entries : Type 0
Entries = List (List Value × Vec (Bor (List Value)))

abbrev pub rows_in : Option (Vec (Bor (List Value))) → List (List Value)
rows_in None = []
rows_in (Some rows) = shown rows.items

abbrev pub rows_under : Entries → List Value → List (List Value)
rows_under entries key = rows_in (lookup (is_at (row_cmp key)) entries)

-- under each key stand the rows that have it, in their order
abbrev pub IsIndex : List (List Value) → List Bool → Entries → Type 0
IsIndex rows marks entries = (key : List Value) → rows_under entries key ≡ filter (has_key marks key) rows

-- ---- the indexes of an instance, by relation and marks

abbrev pub Spot : Type 0
Spot = ℕ × Vec Bool

abbrev pub spot_cmp : Spot → Spot → Ordering
spot_cmp a b = ordering_then (nat_cmp a.0 b.0) (slice_cmp bool_cmp a.1.items b.1.items)

-- what is kept at the spot, where it is an index, is one of the relation by these marks
abbrev pub IsKept : List (List (List Value)) → Spot → Option (BTreeMap (List Value) (Vec (Bor (List Value)))) → Type 0
IsKept db spot kept = IfSome kept (λ index. IsIndex (slice_index_or db spot.0 []) spot.1.items index.entries)

abbrev pub AreKept : List (List (List Value)) → List (Spot × Option (BTreeMap (List Value) (Vec (Bor (List Value))))) → Type 0
AreKept db entries = (spot : Spot) → IfSome (lookup (is_at (spot_cmp spot)) entries) (IsKept db spot)
