-- Sets as values of their own: std's finite maps with nothing at each key. Two sets with the same members are equal.
use Rattle.std.specs.Prelude.{ℕ, Bool, List, [], ◌∷◌}
use Rattle.std.specs.declared.cmp.Ordering.{Ordering}
use Rattle.std.specs.FinMap as map

-- a set of keys in the order R
abbrev pub Set : {K : Type 0} → (K → K → Ordering) → Type 0
Set R = map.FinMap R (Unit {0})

module _ {K : Type 0} {R : K → K → Ordering} where
  -- the empty set
  unfoldable pub none : Set R
  none = map.empty

  -- whether the set has the key
  unfoldable pub has : Set R → K → Bool
  has s key = map.contains_key s key

  -- the set and the key
  unfoldable pub with_row : Set R → K → Set R
  with_row s key = map.insert s key tt

  -- the set without the key
  unfoldable pub without_row : Set R → K → Set R
  without_row s key = map.remove s key

  -- the members that pass a test
  unfoldable pub kept : Set R → (K → Bool) → Set R
  kept s test = map.retain_keys s test

  -- the members, strictly ascending
  unfoldable pub listed : Set R → List K
  listed s = map.keys s

  -- how many members
  unfoldable pub size : Set R → ℕ
  size s = map.len s

  -- the set of a list's elements
  unfoldable pub set_of : List K → Set R
  set_of [] = none
  set_of (x ∷ xs) = with_row (set_of xs) x
