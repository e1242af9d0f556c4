-- Counted rows, and a marking as a list of them, one for each place. R is the order of the rows.
use Rattle.std.specs.Prelude.{ℕ, ◌+◌, ◌-◌, ◌<◌, ◌^◌, List, [], if◌then◌else◌, ◌==◌, slice_index_or, slice_set}
use Rattle.std.specs.declared.cmp.Ordering.{Ordering}
use Rattle.std.specs.Option.{unwrap_or, IfSome}
use Rattle.std.specs.List.{AllByRecursion}
use Rattle.std.specs.List.Sorted.{IsStrictlySortedBy}
use Rattle.std.specs.Map.{lookup, remove_entry, set_value, keys_of}
use Rattle.std.specs.BTreeMap.{is_at, insert_entry}

-- the counted rows of a place
abbrev pub place_of : {K : Type 0} → List (List (K × ℕ)) → ℕ → List (K × ℕ)
place_of marking place = slice_index_or marking place []

module _ {K : Type 0} (R : K → K → Ordering) where
  -- how many tokens of the row there are
  abbrev pub count_of : List (K × ℕ) → K → ℕ
  count_of counted row = unwrap_or (lookup (is_at (R row)) counted) 0

  -- with that many tokens of the row more
  abbrev pub added : List (K × ℕ) → K → ℕ → List (K × ℕ)
  added counted row many = insert_entry R counted row (count_of counted row + many)

  -- without that many tokens of the row; a row whose last token goes goes with it
  abbrev pub taken : List (K × ℕ) → K → ℕ → List (K × ℕ)
  taken counted row many =
      if count_of counted row == many then remove_entry (is_at (R row)) counted
      else set_value (is_at (R row)) counted (count_of counted row - many)

  -- the rows strictly ascend, and each count is from 1 to 4,294,967,295
  pub record IsCounted (counted : List (K × ℕ)) : Type 0 where
    pub ascends : IsStrictlySortedBy R (keys_of counted)
    pub within : (row : K) → IfSome (lookup (is_at (R row)) counted) (λ n. (0 < n) × (n < 2 ^ 32))

  -- the rows of each place are counted
  abbrev pub IsMarking : List (List (K × ℕ)) → Type 0
  IsMarking marking = AllByRecursion IsCounted marking

  -- how many tokens of the row lie in the place
  abbrev pub count_at : List (List (K × ℕ)) → ℕ → K → ℕ
  count_at marking place row = count_of (place_of marking place) row

  -- the marking with that many tokens of the row more in the place, and without them
  abbrev pub with_tokens : List (List (K × ℕ)) → ℕ → K → ℕ → List (List (K × ℕ))
  with_tokens marking place row many = slice_set marking place (added (place_of marking place) row many)

  abbrev pub without_tokens : List (List (K × ℕ)) → ℕ → K → ℕ → List (List (K × ℕ))
  without_tokens marking place row many = slice_set marking place (taken (place_of marking place) row many)
