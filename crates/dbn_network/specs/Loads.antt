-- How many events a change of a feed makes at each node at most, and how many steps it takes at most. R is the order of cells.
use Rattle.std.specs.Prelude.{◌+◌, ◌*◌, ◌==◌, ℕ, cond, List, [], ◌∷◌, map, max, length, slice_index_or}
use Rattle.std.specs.declared.cmp.Ordering.{Ordering}
use Rattle.std.specs.Ordering.{eq_by_cmp}
use Rattle.std.specs.Cmp.Lexicographic.{slice_cmp}
use Rattle.std.specs.List.{filter, sum_by}
use Rattle.dbn_value.specs.Picked.{picked}
use Rattle.dbn_nodes.specs.declared.node.Node.{Node}
use Rattle.dbn_nodes.specs.declared.node.Node.TheVariants as node
use Rattle.dbn_nodes.specs.Stands.{firsts, seconds}
use Rattle.dbn_network.specs.declared.input.Input.{Input}
use Rattle.dbn_network.specs.declared.input.Input.TheVariants as input
use Rattle.dbn_network.specs.Inputs.{left_in, right_in}
use Rattle.dbn_network.specs.Values.{built, rows_from, values}

-- the greatest of the numbers, 0 where there are none
abbrev pub greatest : List ℕ → ℕ
greatest [] = 0
greatest (n ∷ ns) = max n (greatest ns)

-- the load of an input, where a change is on this feed: 1 of the feed itself, and of a node that of the node
abbrev pub load_from : ℕ → List ℕ → Input → ℕ
load_from feed loads input.Nothing = 0
load_from feed loads (input.Feed k) = cond (k == feed) 1 0
load_from feed loads (input.Earlier i) = slice_index_or loads i 0

-- the load of the node that an input names
abbrev pub named_load : List ℕ → Input → ℕ
named_load loads input.Nothing = 0
named_load loads (input.Feed k) = 0
named_load loads (input.Earlier i) = slice_index_or loads i 0

module _ {C : Type 0} where
  -- the loads of the nodes that each node names, each as often as it is named, and its own
  abbrev pub all_loads : List (Node C) → List ℕ → ℕ
  all_loads nodes loads = sum_by (λ n. named_load loads (left_in n) + named_load loads (right_in n)) nodes + sum_by (λ load. load) loads

  module _ (R : C → C → Ordering) where
    -- the greatest number of rows that agree on these columns, 0 where there are no rows
    abbrev pub fan : List ℕ → List (List C) → ℕ
    fan cols rows = greatest (map (λ row. length (filter (λ other. eq_by_cmp (slice_cmp R) (picked cols other) (picked cols row)) rows)) rows)

    -- the load of a node by the loads l and r of its inputs, the rows t of the right one before the change and the rows z of the left one after it
    abbrev pub load_of : Node C → ℕ → ℕ → List (List C) → List (List C) → ℕ
    load_of node.Unit l r t z = 0
    load_of (node.Scan feed) l r t z = l
    load_of (node.Select from tests) l r t z = l
    load_of (node.Join left right on) l r t z = l * fan (seconds on) t + r * fan (firsts on) z
    load_of (node.Diff left right) l r t z = l + r
    load_of (node.Project from cols) l r t z = l
    load_of (node.Union left right) l r t z = l + r
    load_of (node.Extend from with) l r t z = l

    -- the load of a node by those of earlier ones, where v and w are the rows of the nodes before and after the change
    abbrev pub load_in : ℕ → List (List (List C)) → List (List (List C)) → List ℕ → Node C → ℕ
    load_in feed v w loads n = load_of n (load_from feed loads (left_in n)) (load_from feed loads (right_in n)) (rows_from [] v (right_in n)) (rows_from [] w (left_in n))

    -- the loads of all nodes
    unfoldable pub loads_of : ℕ → List (List (List C)) → List (List (List C)) → List (Node C) → List ℕ
    loads_of feed v w nodes = built (load_in feed v w) [] nodes

    -- eight for each node and for each of the loads, by the rows of the feeds before and after a change of this feed
    abbrev pub bound : List (Node C) → ℕ → List (List (List C)) → List (List (List C)) → ℕ
    bound nodes feed before after = 8 * (length nodes + all_loads nodes (loads_of feed (values R before nodes) (values R after nodes) nodes))

    -- how many events one event of the left input makes at most, by the rows of the right one, and one of the right input by those of the left one
    abbrev pub share_left : Node C → List (List C) → ℕ
    share_left (node.Join left right on) t = fan (seconds on) t
    share_left n t = 1

    abbrev pub share_right : Node C → List (List C) → ℕ
    share_right (node.Join left right on) s = fan (firsts on) s
    share_right n s = 1
