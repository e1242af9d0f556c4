-- What a node keeps stands for its inputs, and what a change of an input does. R is the order of cells.
use Rattle.std.specs.Prelude.{◌≡◌, ◌<◌, ◌≤◌, ◌+◌, ◌⊎◌, ℕ, ◌&&◌, List, [], ◌∷◌, map, length}
use Rattle.std.specs.declared.cmp.Ordering.{Ordering}
use Rattle.std.specs.Ordering.{eq_by_cmp}
use Rattle.std.specs.Cmp.Lexicographic.{slice_cmp}
use Rattle.std.specs.List.{filter}
use Rattle.std.specs.List.Sorted.{IsStrictlySortedBy}
use Rattle.dbn_value.specs.Members.{In}
use Rattle.dbn_value.specs.Picked.{picked}
use Rattle.dbn_nodes.specs.declared.event.Event.{Event}
use Rattle.dbn_nodes.specs.declared.node.Node.{Node}
use Rattle.dbn_nodes.specs.declared.node.Node.TheVariants as node
use Rattle.dbn_nodes.specs.declared.state.Kept.{Kept}
use Rattle.dbn_nodes.specs.Tables.{choose, count_at, has}
use Rattle.dbn_nodes.specs.Changes.{row_in, Leads}
use Rattle.dbn_nodes.specs.Values.{matched, value_of}

-- the columns of the left input that a join compares, and those of the right one
abbrev pub firsts : List (ℕ × ℕ) → List ℕ
firsts on = map (λ p. p.0) on

abbrev pub seconds : List (ℕ × ℕ) → List ℕ
seconds on = map (λ p. p.1) on

module _ {C : Type 0} where
  -- the pairs of columns lie within the two rows
  abbrev pub PairsIn : List (ℕ × ℕ) → List C → List C → Type 0
  PairsIn on a b = (p : ℕ × ℕ) → In p on → (p.0 < length a) × (p.1 < length b)

  -- all rows have one width
  abbrev pub AreOneWide : List (List C) → Type 0
  AreOneWide rows = (a b : List C) → In a rows → In b rows → length a ≡ length b

  -- what a node asks of its inputs: a join that its left rows have one width and that the rows have the columns of its pairs,
  -- an extended node that its rows have one width
  abbrev pub Suits : Node C → List (List C) → List (List C) → Type 0
  Suits node.Unit s t = Unit {0}
  Suits (node.Scan feed) s t = Unit {0}
  Suits (node.Select from tests) s t = Unit {0}
  Suits (node.Join left right on) s t = AreOneWide s × ((a b : List C) → In a s → In b t → PairsIn on a b)
  Suits (node.Diff left right) s t = Unit {0}
  Suits (node.Project from cols) s t = Unit {0}
  Suits (node.Union left right) s t = Unit {0}
  Suits (node.Extend from with) s t = AreOneWide s

module _ {C : Type 0} (R : C → C → Ordering) where
  -- each row once, under its key
  abbrev pub IsIndex : List (List C × List (List C × ℕ)) → (List C → List C) → List (List C) → Type 0
  IsIndex table key_of s = (k r : List C) → count_at (slice_cmp R) table k r ≡ choose (has (slice_cmp R) s r && eq_by_cmp (slice_cmp R) (key_of r) k) 1 0

  -- each row once, under the key without cells
  abbrev pub IsPlain : List (List C × List (List C × ℕ)) → List (List C) → Type 0
  IsPlain table s = IsIndex table (λ r. []) s

  -- under the key without cells, each picked row with the number of rows that it is picked from
  abbrev pub IsSupport : List (List C × List (List C × ℕ)) → List ℕ → List (List C) → Type 0
  IsSupport table cols s = (k p : List C) → count_at (slice_cmp R) table k p ≡ choose (eq_by_cmp (slice_cmp R) k []) (length (filter (λ r. eq_by_cmp (slice_cmp R) p (picked cols r)) s)) 0

  -- under the key without cells, each row with the number of inputs that have it
  abbrev pub IsEither : List (List C × List (List C × ℕ)) → List (List C) → List (List C) → Type 0
  IsEither table s t = (k p : List C) → count_at (slice_cmp R) table k p ≡ choose (eq_by_cmp (slice_cmp R) k []) (choose (has (slice_cmp R) s p) 1 0 + choose (has (slice_cmp R) t p) 1 0) 0

  -- what the node keeps stands for its inputs
  abbrev pub Stands : Node C → Kept C → List (List C) → List (List C) → Type 0
  Stands node.Unit kept s t = Unit {0}
  Stands (node.Scan feed) kept s t = Unit {0}
  Stands (node.Select from tests) kept s t = Unit {0}
  Stands (node.Join left right on) kept s t = IsIndex kept.lefts (picked (firsts on)) s × IsIndex kept.rights (picked (seconds on)) t
  Stands (node.Diff left right) kept s t = IsPlain kept.lefts s × IsPlain kept.rights t
  Stands (node.Project from cols) kept s t = IsSupport kept.supports cols s
  Stands (node.Union left right) kept s t = IsEither kept.supports s t
  Stands (node.Extend from with) kept s t = Unit {0}

  -- the inputs ascend and are such as the node asks for
  pub record Good (n : Node C) (s t : List (List C)) : Type 0 where
    pub lefts : IsStrictlySortedBy (slice_cmp R) s
    pub rights : IsStrictlySortedBy (slice_cmp R) t
    pub suits : Suits n s t

  -- a change of the left input, of what the node kept before and after
  abbrev pub FollowsLeft : Node C → Kept C → Kept C → Event C → Type 0
  FollowsLeft n old new e = (s z t : List (List C)) → Good n s t → Good n z t → Stands n old s t → Leads R s (e ∷ []) z → Stands n new z t

  -- a change of the right input
  abbrev pub FollowsRight : Node C → Kept C → Kept C → Event C → Type 0
  FollowsRight n old new e = (s t u : List (List C)) → Good n s t → Good n s u → Stands n old s t → Leads R t (e ∷ []) u → Stands n new s u

  -- events appended to earlier ones: those that led to v lead on to w, each new one is of a row that v or w has, and there are at most so many new ones
  pub record LeadOn (was out : List (Event C)) (v w : List (List C)) (most : ℕ) : Type 0 where
    pub leads : (b : List (List C)) → Leads R b was v → Leads R b out w
    pub rows : (x : Event C) → In x out → In x was ⊎ (In (row_in x) v ⊎ In (row_in x) w)
    pub few : length out ≤ length was + most

  -- how many events a change of the left input makes at most: of a join one for each right row that matches
  abbrev pub most_left : Node C → List C → List (List C) → ℕ
  most_left (node.Join left right on) row t = length (filter (matched R on row) t)
  most_left n row t = 1

  -- .. of the right input
  abbrev pub most_right : Node C → List C → List (List C) → ℕ
  most_right (node.Join left right on) row s = length (filter (λ a. matched R on a row) s)
  most_right n row s = 1

  -- events that led to the node's value before a change of its left input lead on to the value after it
  abbrev pub LeadsLeft : Node C → Kept C → Event C → List (Event C) → List (Event C) → Type 0
  LeadsLeft n old e was out = (s z t : List (List C)) → Good n s t → Good n z t → Stands n old s t → Leads R s (e ∷ []) z → LeadOn was out (value_of R n s t) (value_of R n z t) (most_left n (row_in e) t)

  -- .. of its right input
  abbrev pub LeadsRight : Node C → Kept C → Event C → List (Event C) → List (Event C) → Type 0
  LeadsRight n old e was out = (s t u : List (List C)) → Good n s t → Good n s u → Stands n old s t → Leads R t (e ∷ []) u → LeadOn was out (value_of R n s t) (value_of R n s u) (most_right n (row_in e) s)
