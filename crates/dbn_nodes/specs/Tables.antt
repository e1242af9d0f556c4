-- Counts in a table of rows under keys. R is the order of rows and keys.
use Rattle.std.specs.Prelude.{◌≡◌, ◌<◌, ℕ, Bool, cond, List, [], nat_lt}
use Rattle.std.specs.declared.cmp.Ordering.{Ordering}
use Rattle.std.specs.Ordering.{eq_by_cmp}
use Rattle.std.specs.Option.{unwrap_or, IfSome}
use Rattle.std.specs.List.{list_any}
use Rattle.std.specs.List.Sorted.{IsStrictlySortedBy}
use Rattle.std.specs.Map.{lookup, keys_of}
use Rattle.std.specs.BTreeMap.{is_at}

-- the one number or the other
abbrev pub choose : Bool → ℕ → ℕ → ℕ
choose b m n = cond b m n

module _ {K : Type 0} (R : K → K → Ordering) where
  -- the count of a row on a shelf, 0 where it is not there
  abbrev pub shelf_count : List (K × ℕ) → K → ℕ
  shelf_count shelf row = unwrap_or (lookup (is_at (R row)) shelf) 0

  -- what stands under a key: no rows where there is no such key
  abbrev pub shelf_at : List (K × List (K × ℕ)) → K → List (K × ℕ)
  shelf_at table key = unwrap_or (lookup (is_at (R key)) table) []

  -- the count of a row under a key
  abbrev pub count_at : List (K × List (K × ℕ)) → K → K → ℕ
  count_at table key row = shelf_count (shelf_at table key) row

  -- the rows ascend, each once, each with a count of at least 1
  pub record IsShelf (shelf : List (K × ℕ)) : Type 0 where
    pub ascends : IsStrictlySortedBy R (keys_of shelf)
    pub filled : (row : K) → IfSome (lookup (is_at (R row)) shelf) (λ n. 0 < n)

  -- some row has a count
  abbrev pub IsFilled : List (K × ℕ) → Type 0
  IsFilled shelf = (row : K) × (0 < shelf_count shelf row)

  -- each key that is there has a row
  abbrev pub IsTable : List (K × List (K × ℕ)) → Type 0
  IsTable table = (key : K) → IfSome (lookup (is_at (R key)) table) IsFilled

  -- whether the list has the row
  abbrev pub has : List K → K → Bool
  has rows row = list_any (eq_by_cmp R row) rows

  -- the rows ascend, and they are those with a count under the key
  pub record AreRowsOf (table : List (K × List (K × ℕ))) (key : K) (rows : List K) : Type 0 where
    pub ascends : IsStrictlySortedBy R rows
    pub members : (row : K) → has rows row ≡ nat_lt 0 (count_at table key row)
