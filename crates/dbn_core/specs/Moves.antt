-- Tokens that are taken from a marking and given to it. cmp is the order of cells.
use Rattle.std.specs.Prelude.{ℕ, ◌+◌, ◌<◌, ◌≤◌, ◌^◌, Bool, nat_le, if◌then◌else◌, List, [], ◌∷◌, map, length, Option, Some, None}
use Rattle.std.specs.declared.cmp.Ordering.{Ordering}
use Rattle.std.specs.Cmp.Lexicographic.{slice_cmp}
use Rattle.std.specs.List.{list_any}
use Rattle.std.specs.Option.{option_map}
use Rattle.dbn_value.specs.Members.{In}
use Rattle.dbn_marking.specs.Counts.{count_at, with_tokens, without_tokens}
use Rattle.dbn_net.specs.declared.want.Want.{Want}
use Rattle.dbn_net.specs.Wants.{spot_of}

-- the counted rows of each place
abbrev pub Tokens : Type 0 → Type 0
Tokens C = List (List (List C × ℕ))

-- a row has more than 4,294,967,295 tokens
abbrev pub is_over : {C : Type 0} → List (List C × ℕ) → Bool
is_over held = list_any (λ counted. nat_le (2 ^ 32) counted.1) held

-- the first place with such a row
abbrev pub first_over : {C : Type 0} → Tokens C → Option ℕ
first_over [] = None
first_over (held ∷ marking) = if is_over held then Some 0 else option_map (λ n. n + 1) (first_over marking)

-- no token is of this row in this place
abbrev pub Unnamed : {C : Type 0} → List (Want C) → ℕ → List C → Type 0
Unnamed wants place row = In (place, row) (map spot_of wants) → ⊥

-- each is of a place that there is, and one or more
abbrev pub AreGifts : {C : Type 0} → ℕ → List (Want C) → Type 0
AreGifts {C} sites wants = (w : Want C) → In w wants → (w.place < sites) × (0 < w.many)

module _ {C : Type 0} (cmp : C → C → Ordering) where
  -- without all of the tokens
  abbrev pub taken_all : List (Want C) → Tokens C → Tokens C
  taken_all [] marking = marking
  taken_all (w ∷ wants) marking = taken_all wants (without_tokens (slice_cmp cmp) marking w.place w.row w.many)

  -- with all of the tokens more
  abbrev pub given_all : List (Want C) → Tokens C → Tokens C
  given_all [] marking = marking
  given_all (w ∷ wants) marking = given_all wants (with_tokens (slice_cmp cmp) marking w.place w.row w.many)

  -- the place of the first tokens that would bring a count above 4,294,967,295
  abbrev pub first_full : List (Want C) → Tokens C → Option ℕ
  first_full [] marking = None
  first_full (w ∷ wants) marking =
      if nat_le (2 ^ 32) (count_at (slice_cmp cmp) marking w.place w.row + w.many) then Some w.place else first_full wants marking

  -- all can be taken: each is there when its turn comes
  abbrev pub CanTake : List (Want C) → Tokens C → Type 0
  CanTake [] marking = Unit {0}
  CanTake (w ∷ wants) marking =
      (w.place < length marking)
      × (0 < w.many)
      × (w.many ≤ count_at (slice_cmp cmp) marking w.place w.row)
      × CanTake wants (without_tokens (slice_cmp cmp) marking w.place w.row w.many)

  -- all can be given: no count passes 4,294,967,295 when its turn comes
  abbrev pub CanGive : List (Want C) → Tokens C → Type 0
  CanGive [] marking = Unit {0}
  CanGive (w ∷ wants) marking =
      (w.place < length marking)
      × (0 < w.many)
      × (count_at (slice_cmp cmp) marking w.place w.row + w.many < 2 ^ 32)
      × CanGive wants (with_tokens (slice_cmp cmp) marking w.place w.row w.many)
