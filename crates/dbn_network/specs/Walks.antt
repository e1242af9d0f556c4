-- The nodes that the event of a feed reaches.
use Rattle.std.specs.Prelude.{◌≡◌, ◌<◌, ◌++◌, ◌==◌, ◌||◌, ℕ, suc, Bool, true, false, cond, List, [], ◌∷◌, length, slice_index_or}
use Rattle.std.specs.List.{list_any}
use Rattle.dbn_nodes.specs.declared.node.Node.{Node}
use Rattle.dbn_nodes.specs.declared.event.Event.{Event}
use Rattle.dbn_network.specs.declared.held.Held.{Held}
use Rattle.dbn_network.specs.declared.input.Input.{Input}
use Rattle.dbn_network.specs.declared.input.Input.TheVariants as input
use Rattle.dbn_network.specs.Inputs.{left_in, right_in}
use Rattle.dbn_network.specs.Values.{built}
use Rattle.dbn_network.specs.Holding.{nodes_of}

-- the input is this feed, or a node with a mark
abbrev pub is_reached : ℕ → List Bool → Input → Bool
is_reached feed marks input.Nothing = false
is_reached feed marks (input.Feed k) = k == feed
is_reached feed marks (input.Earlier i) = slice_index_or marks i false

-- the input is this feed, or one of these nodes
abbrev pub reads : ℕ → List ℕ → Input → Bool
reads feed walk input.Nothing = false
reads feed walk (input.Feed k) = k == feed
reads feed walk (input.Earlier i) = list_any (λ j. j == i) walk

-- a walk with one more node behind the others, if one of its inputs is reached
abbrev pub longer : ℕ → List ℕ → Input → Input → ℕ → List ℕ
longer feed walk left right number = walk ++ cond (reads feed walk left || reads feed walk right) (number ∷ []) []

-- the places of the marks, counted from the number i on
abbrev pub marked_from : ℕ → List Bool → List ℕ
marked_from i [] = []
marked_from i (true ∷ marks) = i ∷ marked_from (suc i) marks
marked_from i (false ∷ marks) = marked_from (suc i) marks

module _ {C : Type 0} where
  abbrev pub mark_of : ℕ → List Bool → Node C → Bool
  mark_of feed marks n = is_reached feed marks (left_in n) || is_reached feed marks (right_in n)

  -- a mark for each node that the feed reaches: one that reads the feed, or a node with a mark
  unfoldable pub marks : ℕ → List (Node C) → List Bool
  marks feed nodes = built (mark_of feed) [] nodes

  -- the walk of each feed has the nodes that the feed reaches, in their order; and of each node there are no events between the calls
  pub record AreWalks (count : ℕ) (states : List (Held C)) (walks : List (List ℕ)) (made : List (List (Event C))) : Type 0 where
    pub size : length walks ≡ count
    pub each : (k : ℕ) → k < count → slice_index_or walks k [] ≡ marked_from 0 (marks k (nodes_of states))
    pub many : length made ≡ length states
    pub quiet : (i : ℕ) → slice_index_or made i [] ≡ []
