-- What a network holds in its tables. R is the order of cells.
use Rattle.std.specs.Prelude.{◌≡◌, ◌<◌, ◌⊎◌, ℕ, true, List, [], ◌∷◌, map, slice_set, length, nat_lt, slice_index_or}
use Rattle.std.specs.declared.cmp.Ordering.{Ordering}
use Rattle.std.specs.Cmp.Lexicographic.{slice_cmp}
use Rattle.std.specs.List.{filter}
use Rattle.std.specs.Map.{keys_of}
use Rattle.dbn_value.specs.Ascending.{ascending}
use Rattle.dbn_value.specs.declared.value.ColType.{ColType}
use Rattle.dbn_nodes.specs.declared.node.Node.{Node}
use Rattle.dbn_nodes.specs.declared.node.Node.TheVariants as node
use Rattle.std.specs.List.Sorted.{IsStrictlySortedBy}
use Rattle.dbn_nodes.specs.declared.event.Event.{Event}
use Rattle.dbn_nodes.specs.Changes.{Leads}
use Rattle.dbn_nodes.specs.Answering.{IsLookedUp}
use Rattle.dbn_nodes.specs.Tables.{count_at, shelf_at}
use Rattle.dbn_nodes.specs.Stands.{IsPlain}
use Rattle.dbn_network.specs.declared.held.Held.{Held}
use Rattle.dbn_network.specs.declared.input.Input.{Input}
use Rattle.dbn_network.specs.declared.input.Input.TheVariants as input
use Rattle.dbn_network.specs.Inputs.{left_in, right_in}
use Rattle.dbn_network.specs.Values.{rows_at, values}
use Rattle.dbn_network.specs.States.{width_at, feed_widths, widths, IsThere}
use Rattle.dbn_network.specs.Passes.{IsWide, ArePlaced, AreRead, AllStand}

-- the nodes of the states
abbrev pub nodes_of : {C : Type 0} → List (Held C) → List (Node C)
nodes_of states = map (λ s. s.state.node) states

-- the inputs of each node are feeds that there are, or earlier nodes
abbrev pub AreEarlier : {C : Type 0} → ℕ → List (Held C) → Type 0
AreEarlier {C} feeds states = (i : ℕ) (d : Held C) → i < length states → IsThere feeds i (left_in (slice_index_or states i d).state.node) × IsThere feeds i (right_in (slice_index_or states i d).state.node)

-- what is kept of the node, or of its feed, tells by look-ups whether it has a row, and whether it has any
abbrev pub IsDirect : {C : Type 0} → Node C → Type 0
IsDirect (node.Scan feed) = Unit {0}
IsDirect n = IsLookedUp n

-- the same states, in which the one that is this input is marked
pub record MarkedBy {C : Type 0} (old new : List (Held C)) (x : Input) : Type 0 where
  pub size : length new ≡ length old
  pub states : (i : ℕ) (d : Held C) → (slice_index_or new i d).state ≡ (slice_index_or old i d).state
  pub stay : (k : ℕ) (e : Held C) → (slice_index_or old k e).read ≡ true → (slice_index_or new k e).read ≡ true
  pub read : (k : ℕ) → x ≡ input.Earlier k → (e : Held C) → (slice_index_or new k e).read ≡ true

-- the same states, in which those that this node reads are marked
pub record Marked {C : Type 0} (old new : List (Held C)) (n : Node C) : Type 0 where
  pub size : length new ≡ length old
  pub states : (i : ℕ) (d : Held C) → (slice_index_or new i d).state ≡ (slice_index_or old i d).state
  pub stay : (k : ℕ) (e : Held C) → (slice_index_or old k e).read ≡ true → (slice_index_or new k e).read ≡ true
  pub read : (k : ℕ) → (left_in n ≡ input.Earlier k) ⊎ (right_in n ≡ input.Earlier k) → (e : Held C) → (slice_index_or new k e).read ≡ true

module _ {C : Type 0} (R : C → C → Ordering) where
  -- the rows that have a count under the key without cells
  abbrev pub held_rows : List (List C × List (List C × ℕ)) → List (List C)
  held_rows table = ascending (slice_cmp R) (filter (λ row. nat_lt 0 (count_at (slice_cmp R) table [] row)) (keys_of (shelf_at (slice_cmp R) table [])))

  -- the rows of the feeds, by their tables
  abbrev pub feeds_of : List (List (List C × List (List C × ℕ))) → List (List (List C))
  feeds_of tables = map held_rows tables

  -- the table of one feed is another one: after an event, of rows that it stood for, it stands for those after the event
  pub record NotedAt (old new : List (List (List C × List (List C × ℕ)))) (feed : ℕ) (e : Event C) : Type 0 where
    pub table : List (List C × List (List C × ℕ))
    pub is : new ≡ slice_set old feed table
    pub plain : (s z : List (List C)) → IsStrictlySortedBy (slice_cmp R) s → IsPlain R (slice_index_or old feed []) s → Leads R s (e ∷ []) z → IsPlain R table z

  -- each feed's table has the rows of the feed, each once; each node fits its place, is marked where a later one reads it, and what it keeps
  -- stands for the rows of its inputs
  pub record IsNetwork (shapes : List (List ColType)) (states : List (Held C)) (tables : List (List (List C × List (List C × ℕ)))) : Type 0 where
    pub size : length tables ≡ length shapes
    pub fed : (k : ℕ) → IsPlain R (slice_index_or tables k []) (rows_at (feeds_of tables) k)
    pub shaped : (k : ℕ) → IsWide (width_at (feed_widths shapes) k) (rows_at (feeds_of tables) k)
    pub placed : ArePlaced states (feed_widths shapes) (widths (feed_widths shapes) (nodes_of states))
    pub read : AreRead states
    pub stand : AllStand R states (feeds_of tables) (values R (feeds_of tables) (nodes_of states))
