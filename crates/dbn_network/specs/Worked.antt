-- A network with every kind of node over five relations, and what a test asks of one.
use Rattle.std.specs.Prelude.{◌≡◌, ◌<◌, ◌≤◌, ℕ, List, [], ◌∷◌, ◌++◌, length, slice_index_or, IsTrue}
use Rattle.dbn_value.specs.declared.term.Cmp.TheVariants as cmp
use Rattle.dbn_nodes.specs.declared.node.ColTest.TheVariants as test
use Rattle.dbn_nodes.specs.declared.node.Added.TheVariants as added
use Rattle.dbn_nodes.specs.declared.node.Node.{Node}
use Rattle.dbn_nodes.specs.declared.node.Node.TheVariants as node
use Rattle.dbn_network.specs.States.{State, FitsAt, feed_widths, widths}

-- how many columns the relations have
abbrev pub columns : List ℕ
columns = 1 ∷ 1 ∷ 2 ∷ 1 ∷ 2 ∷ []

module _ {C : Type 0} where
  -- a scan of each relation
  abbrev pub scans : List (Node C)
  scans = node.Scan 0 ∷ node.Scan 1 ∷ node.Scan 2 ∷ node.Scan 3 ∷ node.Scan 4 ∷ []

  -- node 5 has no rows, node 9 has the rows of relation 0 that are with each row of relation 1 in relation 2
  abbrev pub lacking : List (Node C)
  lacking = node.Diff 3 3 ∷ node.Join 0 1 [] ∷ node.Diff 6 2 ∷ node.Project 7 (0 ∷ []) ∷ node.Diff 0 8 ∷ []

  -- node 10 has the first columns of relation 4
  abbrev pub other_kinds : List (Node C)
  other_kinds =
      node.Project 4 (0 ∷ [])
      ∷ node.Unit
      ∷ node.Union 2 4
      ∷ node.Select 12 (test.Columns cmp.Lt 0 1 ∷ [])
      ∷ node.Join 13 10 ((1, 0) ∷ [])
      ∷ node.Extend 14 (added.Copied 2)
      ∷ []

  -- each node fits behind those before it
  abbrev pub AllFit : List ℕ → List (Node C) → List (Node C) → Type 0
  AllFit feeds before [] = Unit {0}
  AllFit feeds before (n ∷ nodes) = FitsAt feeds (widths feeds before) (length before) n × AllFit feeds (before ++ n ∷ []) nodes

  -- the network is live, over these relations alone, and begins with their scans
  pub record IsReady (s : State C) : Type 0 where
    pub live : IsTrue s.live
    pub rels : s.rels ≡ s.shapes
    pub widths : feed_widths s.shapes ≡ columns
    pub feeds : length s.feeds ≡ 5
    pub count : 5 ≤ length s.nodes
    pub scans : (k : ℕ) → k < 5 → (d : Node C) → slice_index_or s.nodes k d ≡ node.Scan k

  -- the same network with other rows
  pub record SameNodes (new old : State C) : Type 0 where
    pub ready : IsReady new
    pub nodes : new.nodes ≡ old.nodes
