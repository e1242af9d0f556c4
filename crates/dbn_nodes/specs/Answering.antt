-- What a node answers from what it keeps. R is the order of cells.
use Rattle.std.specs.Prelude.{◌≡◌, ◌++◌, ℕ, List, map}
use Rattle.std.specs.declared.cmp.Ordering.{Ordering}
use Rattle.std.specs.Cmp.Lexicographic.{slice_cmp}
use Rattle.std.specs.List.{filter, flat_map}
use Rattle.std.specs.List.Sorted.{IsStrictlySortedBy}
use Rattle.dbn_value.specs.Members.{In}
use Rattle.dbn_value.specs.Picked.{picked}
use Rattle.dbn_nodes.specs.declared.node.Node.{Node}
use Rattle.dbn_nodes.specs.declared.node.Node.TheVariants as node
use Rattle.dbn_nodes.specs.declared.state.Kept.{Kept}
use Rattle.dbn_nodes.specs.Values.{matched, value_of}
use Rattle.dbn_nodes.specs.Stands.{seconds, PairsIn, IsIndex, Stands, Good}

module _ {C : Type 0} where
  -- the rows that are handed in are those of the left input, where the node doesn't keep enough
  abbrev pub AreLefts : Node C → List (List C) → List (List C) → Type 0
  AreLefts node.Unit lefts s = Unit {0}
  AreLefts (node.Scan feed) lefts s = lefts ≡ s
  AreLefts (node.Select from tests) lefts s = lefts ≡ s
  AreLefts (node.Join left right on) lefts s = lefts ≡ s
  AreLefts (node.Diff left right) lefts s = Unit {0}
  AreLefts (node.Project from cols) lefts s = Unit {0}
  AreLefts (node.Union left right) lefts s = Unit {0}
  AreLefts (node.Extend from with) lefts s = lefts ≡ s

  -- what the node keeps tells by look-ups whether it has a row, and whether it has any
  abbrev pub IsLookedUp : Node C → Type 0
  IsLookedUp node.Unit = Unit {0}
  IsLookedUp (node.Scan feed) = ⊥
  IsLookedUp (node.Select from tests) = ⊥
  IsLookedUp (node.Join left right on) = ⊥
  IsLookedUp (node.Diff left right) = Unit {0}
  IsLookedUp (node.Project from cols) = Unit {0}
  IsLookedUp (node.Union left right) = Unit {0}
  IsLookedUp (node.Extend from with) = ⊥

module _ {C : Type 0} where
  -- the node counts its rows
  abbrev pub IsCounted : Node C → Type 0
  IsCounted node.Unit = ⊥
  IsCounted (node.Scan feed) = ⊥
  IsCounted (node.Select from tests) = ⊥
  IsCounted (node.Join left right on) = ⊥
  IsCounted (node.Diff left right) = ⊥
  IsCounted (node.Project from cols) = Unit {0}
  IsCounted (node.Union left right) = Unit {0}
  IsCounted (node.Extend from with) = ⊥

module _ {C : Type 0} (R : C → C → Ordering) where
  -- these are the node's rows
  abbrev pub AreRowsAt : Node C → Kept C → List (List C) → List (List C) → Type 0
  AreRowsAt n kept lefts rows = (s t : List (List C)) → Good R n s t → Stands R n kept s t → AreLefts n lefts s → rows ≡ value_of R n s t

  -- the right rows stand under their keys in the table, and have the columns of the pairs beside the left ones
  pub record JoinsWith (on : List (ℕ × ℕ)) (table : List (List C × List (List C × ℕ))) (lefts t : List (List C)) : Type 0 where
    pub sorted : IsStrictlySortedBy (slice_cmp R) t
    pub within : (a b : List C) → In a lefts → In b t → PairsIn on a b
    pub stands : IsIndex R table (picked (seconds on)) t

  -- each left row followed by each right row that matches it
  abbrev pub all_pairs : List (ℕ × ℕ) → List (List C) → List (List C) → List (List C)
  all_pairs on ls t = flat_map (λ a. map (λ b. a ++ b) (filter (matched R on a) t)) ls
