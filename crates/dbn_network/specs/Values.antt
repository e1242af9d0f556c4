-- The rows of the nodes over the rows of the feeds, by recursion on earlier nodes. R is the order of cells.
use Rattle.std.specs.Prelude.{ℕ, List, [], ◌∷◌, ◌++◌, slice_index_or}
use Rattle.std.specs.declared.cmp.Ordering.{Ordering}
use Rattle.dbn_nodes.specs.declared.node.Node.{Node}
use Rattle.dbn_nodes.specs.Values.{value_of}
use Rattle.dbn_network.specs.declared.input.Input.{Input}
use Rattle.dbn_network.specs.declared.input.Input.TheVariants as input
use Rattle.dbn_network.specs.Inputs.{left_in, right_in}

-- the elements that each element of a list makes of those that were made before it
abbrev pub built : {A N : Type 0} → (List A → N → A) → List A → List N → List A
built make done [] = done
built make done (n ∷ ns) = built make (done ++ make done n ∷ []) ns

module _ {C : Type 0} where
  -- the rows at a number, none where there is no such number
  abbrev pub rows_at : List (List (List C)) → ℕ → List (List C)
  rows_at all i = slice_index_or all i []

  -- the rows of an input, by those of the feeds and those of earlier nodes
  abbrev pub rows_from : List (List (List C)) → List (List (List C)) → Input → List (List C)
  rows_from feeds done input.Nothing = []
  rows_from feeds done (input.Feed feed) = rows_at feeds feed
  rows_from feeds done (input.Earlier i) = rows_at done i

  module _ (R : C → C → Ordering) where
    -- the rows of a node
    abbrev pub value_in : List (List (List C)) → List (List (List C)) → Node C → List (List C)
    value_in feeds done n = value_of R n (rows_from feeds done (left_in n)) (rows_from feeds done (right_in n))

    -- the rows of all nodes
    unfoldable pub values : List (List (List C)) → List (Node C) → List (List (List C))
    values feeds nodes = built (value_in feeds) [] nodes

    -- the rows of the node with this number
    abbrev pub val : ℕ → List (Node C) → List (List (List C)) → List (List C)
    val i nodes feeds = rows_at (values feeds nodes) i
