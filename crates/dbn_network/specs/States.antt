-- What a network means, how wide the rows of its nodes are, and which node may be added.
use Rattle.std.specs.Prelude.{◌≡◌, ◌<◌, ◌+◌, ℕ, Bool, List, [], ◌∷◌, ◌++◌, map, length, slice_index_or}
use Rattle.dbn_value.specs.Members.{In}
use Rattle.dbn_value.specs.declared.value.ColType.{ColType}
use Rattle.dbn_nodes.specs.declared.node.ColTest.{ColTest}
use Rattle.dbn_nodes.specs.declared.node.ColTest.TheVariants as test
use Rattle.dbn_nodes.specs.declared.node.Added.{Added}
use Rattle.dbn_nodes.specs.declared.node.Added.TheVariants as added
use Rattle.dbn_nodes.specs.declared.node.Node.{Node}
use Rattle.dbn_nodes.specs.declared.node.Node.TheVariants as node
use Rattle.dbn_nodes.specs.declared.event.Event.{Event}
use Rattle.dbn_nodes.specs.declared.event.Event.TheVariants as event
use Rattle.dbn_instance.specs.declared.fact.Change.{Change}
use Rattle.dbn_instance.specs.declared.fact.Change.TheVariants as change
use Rattle.dbn_network.specs.declared.input.Input.{Input}
use Rattle.dbn_network.specs.declared.input.Input.TheVariants as input
use Rattle.dbn_network.specs.Inputs.{left_in, right_in}
use Rattle.dbn_network.specs.Values.{built}

-- whether the network is live, the shapes of the relations, the shapes of all feeds, the nodes, and the rows of the feeds
pub record State (C : Type 0) : Type 0 where
  pub live : Bool
  pub rels : List (List ColType)
  pub shapes : List (List ColType)
  pub nodes : List (Node C)
  pub feeds : List (List (List C))

abbrev pub width_at : List ℕ → ℕ → ℕ
width_at widths i = slice_index_or widths i 0

abbrev pub feed_widths : List (List ColType) → List ℕ
feed_widths shapes = map length shapes

-- how wide the rows of an input are, by those of the feeds and those of earlier nodes
abbrev pub width_from : List ℕ → List ℕ → Input → ℕ
width_from feeds done input.Nothing = 0
width_from feeds done (input.Feed feed) = width_at feeds feed
width_from feeds done (input.Earlier i) = width_at done i

-- the input is there, where there are so many feeds and so many nodes come before
abbrev pub IsThere : ℕ → ℕ → Input → Type 0
IsThere feeds before input.Nothing = Unit {0}
IsThere feeds before (input.Feed feed) = feed < feeds
IsThere feeds before (input.Earlier i) = i < before

module _ {C : Type 0} where
  -- how wide the rows of a node are, by those of its inputs
  abbrev pub wide : Node C → ℕ → ℕ → ℕ
  wide node.Unit l r = 0
  wide (node.Scan feed) l r = l
  wide (node.Select from tests) l r = l
  wide (node.Join left right on) l r = l + r
  wide (node.Diff left right) l r = l
  wide (node.Project from cols) l r = length cols
  wide (node.Union left right) l r = l
  wide (node.Extend from with) l r = l + 1

  abbrev pub width_in : List ℕ → List ℕ → Node C → ℕ
  width_in feeds done n = wide n (width_from feeds done (left_in n)) (width_from feeds done (right_in n))

  -- how wide the rows of all nodes are
  unfoldable pub widths : List ℕ → List (Node C) → List ℕ
  widths feeds nodes = built (width_in feeds) [] nodes

  -- the test names columns of a row of this width
  abbrev pub TestIn : ℕ → ColTest C → Type 0
  TestIn n (test.Columns c left right) = (left < n) × (right < n)
  TestIn n (test.Constant c col cell) = col < n

  abbrev pub AddedIn : ℕ → Added C → Type 0
  AddedIn n (added.Copied col) = col < n
  AddedIn n (added.Constant cell) = Unit {0}

  -- the node names columns that its inputs have, and two inputs that are compared have one width
  abbrev pub NamesIn : Node C → ℕ → ℕ → Type 0
  NamesIn node.Unit l r = Unit {0}
  NamesIn (node.Scan feed) l r = Unit {0}
  NamesIn (node.Select from tests) l r = (x : ColTest C) → In x tests → TestIn l x
  NamesIn (node.Join left right on) l r = (p : ℕ × ℕ) → In p on → (p.0 < l) × (p.1 < r)
  NamesIn (node.Diff left right) l r = l ≡ r
  NamesIn (node.Project from cols) l r = (col : ℕ) → In col cols → col < l
  NamesIn (node.Union left right) l r = l ≡ r
  NamesIn (node.Extend from with) l r = AddedIn l with

  -- the node's inputs come before it, and it names columns that they have
  pub record FitsAt (feeds done : List ℕ) (before : ℕ) (n : Node C) : Type 0 where
    pub left : IsThere (length feeds) before (left_in n)
    pub right : IsThere (length feeds) before (right_in n)
    pub names : NamesIn n (width_from feeds done (left_in n)) (width_from feeds done (right_in n))

  abbrev pub state_widths : State C → List ℕ
  state_widths s = widths (feed_widths s.shapes) s.nodes

  -- the node may be added
  abbrev pub Fits : State C → Node C → Type 0
  Fits s n = FitsAt (feed_widths s.shapes) (state_widths s) (length s.nodes) n

  -- the same network with one more node, and with other rows in the feeds
  abbrev pub with_node : State C → Node C → State C
  with_node s n = record { live = s.live; rels = s.rels; shapes = s.shapes; nodes = s.nodes ++ n ∷ []; feeds = s.feeds }

  abbrev pub with_feeds : State C → List (List (List C)) → State C
  with_feeds s feeds = record { live = s.live; rels = s.rels; shapes = s.shapes; nodes = s.nodes; feeds = feeds }

  -- the feeds are an instance with more relations: an event of a feed is a change of a fact
  abbrev pub change_at : ℕ → Event C → Change C
  change_at feed (event.Plus row) = change.Plus (record { rel = feed; row = row })
  change_at feed (event.Minus row) = change.Minus (record { rel = feed; row = row })
