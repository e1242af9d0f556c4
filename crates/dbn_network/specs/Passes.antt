-- Events that run through a node, and the pass of one event of a feed over all nodes. R is the order of cells.
use Rattle.std.specs.Prelude.{◌≡◌, ◌<◌, ◌≤◌, ◌+◌, ◌*◌, ◌==◌, ◌⊎◌, ℕ, true, false, cond, List, [], ◌∷◌, map, length, slice_index_or}
use Rattle.std.specs.declared.cmp.Ordering.{Ordering}
use Rattle.std.specs.Cmp.Lexicographic.{slice_cmp}
use Rattle.std.specs.List.Sorted.{IsStrictlySortedBy}
use Rattle.dbn_value.specs.Members.{In}
use Rattle.dbn_nodes.specs.declared.node.Node.{Node}
use Rattle.dbn_nodes.specs.declared.event.Event.{Event}
use Rattle.dbn_nodes.specs.declared.state.Kept.{Kept}
use Rattle.dbn_nodes.specs.Changes.{row_in, Leads}
use Rattle.dbn_nodes.specs.Values.{value_of}
use Rattle.dbn_nodes.specs.Stands.{Stands}
use Rattle.dbn_network.specs.declared.input.Input.{Input}
use Rattle.dbn_network.specs.declared.input.Input.TheVariants as input
use Rattle.dbn_network.specs.declared.held.Held.{Held}
use Rattle.dbn_network.specs.Inputs.{left_in, right_in}
use Rattle.dbn_network.specs.Values.{rows_at, rows_from, value_in}
use Rattle.dbn_network.specs.States.{width_at, width_in, wide, NamesIn, FitsAt}
use Rattle.dbn_network.specs.Loads.{all_loads, loads_of, share_left, share_right}

module _ {C : Type 0} where
  -- all but the tables
  pub record SameHeld (new old : Held C) : Type 0 where
    pub node : new.state.node ≡ old.state.node
    pub read : new.read ≡ old.read

  pub record Alike (new old : List (Held C)) : Type 0 where
    pub size : length new ≡ length old
    pub nodes : (i : ℕ) (d : Held C) → SameHeld (slice_index_or new i d) (slice_index_or old i d)

  -- all rows have this many cells, and the rows of all events
  abbrev pub IsWide : ℕ → List (List C) → Type 0
  IsWide width rows = (row : List C) → In row rows → length row ≡ width

  abbrev pub AreWide : ℕ → List (Event C) → Type 0
  AreWide width es = (e : Event C) → In e es → length (row_in e) ≡ width

  -- the events of a feed where one event happens, and those of an input
  abbrev pub at_feed : ℕ → Event C → ℕ → List (Event C)
  at_feed feed event k = cond (k == feed) (event ∷ []) []

  abbrev pub events_from : ℕ → Event C → List (List (Event C)) → Input → List (Event C)
  events_from feed event all input.Nothing = []
  events_from feed event all (input.Feed k) = at_feed feed event k
  events_from feed event all (input.Earlier i) = slice_index_or all i []

  -- each node fits its place, and has the width that its inputs give it
  abbrev pub ArePlaced : List (Held C) → List ℕ → List ℕ → Type 0
  ArePlaced states feeds nodes = (i : ℕ) (d : Held C) → i < length states → FitsAt feeds nodes i (slice_index_or states i d).state.node

  abbrev pub HaveWidths : List (Held C) → List ℕ → List ℕ → Type 0
  HaveWidths states feeds nodes = (i : ℕ) (d : Held C) → i < length states → width_at nodes i ≡ width_in feeds nodes (slice_index_or states i d).state.node

  -- a node that another one reads is marked
  abbrev pub AreRead : List (Held C) → Type 0
  AreRead states = (i : ℕ) (d : Held C) → i < length states → (k : ℕ) → (left_in (slice_index_or states i d).state.node ≡ input.Earlier k) ⊎ (right_in (slice_index_or states i d).state.node ≡ input.Earlier k) → (e : Held C) → (slice_index_or states k e).read ≡ true

module _ {C : Type 0} (R : C → C → Ordering) where
  -- the rows of two inputs ascend and have these widths
  pub record Proper (l r : ℕ) (s t : List (List C)) : Type 0 where
    pub lefts : IsStrictlySortedBy (slice_cmp R) s
    pub rights : IsStrictlySortedBy (slice_cmp R) t
    pub wide_left : IsWide l s
    pub wide_right : IsWide r t

  -- events that led to v lead on to w, all of rows of one width, at most so many new ones
  pub record LeadAll (width most : ℕ) (was out : List (Event C)) (v w : List (List C)) : Type 0 where
    pub leads : (b : List (List C)) → Leads R b was v → Leads R b out w
    pub wide : AreWide width was → AreWide width out
    pub few : length out ≤ length was + most

  -- what a node keeps follows the events of its left input, and those of its right one
  abbrev pub FollowsLefts : Node C → Kept C → Kept C → List (Event C) → Type 0
  FollowsLefts n old new es = (l r : ℕ) (s z t : List (List C)) → NamesIn n l r → Proper l r s t → AreWide l es → Stands R n old s t → Leads R s es z → Stands R n new z t

  abbrev pub FollowsRights : Node C → Kept C → Kept C → List (Event C) → Type 0
  FollowsRights n old new es = (l r : ℕ) (s t u : List (List C)) → NamesIn n l r → Proper l r s t → AreWide r es → Stands R n old s t → Leads R t es u → Stands R n new s u

  -- events that led to the node's rows before lead on to those after the events of its left input, and of its right one
  abbrev pub LeadsLefts : Node C → Kept C → List (Event C) → List (Event C) → List (Event C) → Type 0
  LeadsLefts n old es was out = (l r : ℕ) (s z t : List (List C)) → NamesIn n l r → Proper l r s t → AreWide l es → Stands R n old s t → Leads R s es z → LeadAll (wide n l r) (length es * share_left R n t) was out (value_of R n s t) (value_of R n z t)

  abbrev pub LeadsRights : Node C → Kept C → List (Event C) → List (Event C) → List (Event C) → Type 0
  LeadsRights n old es was out = (l r : ℕ) (s t u : List (List C)) → NamesIn n l r → Proper l r s t → AreWide r es → Stands R n old s t → Leads R t es u → LeadAll (wide n l r) (length es * share_right R n s) was out (value_of R n s t) (value_of R n s u)

  -- the events of both inputs, the left ones first
  abbrev pub FollowsBoth : Node C → Kept C → Kept C → List (Event C) → List (Event C) → Type 0
  FollowsBoth n old new ls rs =
      (l r : ℕ) (s z t u : List (List C)) → NamesIn n l r → Proper l r s t → AreWide l ls → AreWide r rs → Stands R n old s t → Leads R s ls z → Leads R t rs u → Stands R n new z u

  abbrev pub LeadsBoth : Node C → Kept C → List (Event C) → List (Event C) → List (Event C) → Type 0
  LeadsBoth n old ls rs out =
      (l r : ℕ) (s z t u : List (List C)) → NamesIn n l r → Proper l r s t → AreWide l ls → AreWide r rs → Stands R n old s t → Leads R s ls z → Leads R t rs u → LeadAll (wide n l r) (length ls * share_left R n t + length rs * share_right R n z) [] out (value_of R n s t) (value_of R n z u)

  -- the events ran through the left input of a node, in at most four steps each and two for each new one; a node that nothing reads made none
  pub record RunsLeft (old new : Held C) (es was out : List (Event C)) (before steps : ℕ) : Type 0 where
    pub same : SameHeld new old
    pub stands : FollowsLefts old.state.node old.state.kept new.state.kept es
    pub leads : old.read ≡ true → LeadsLefts old.state.node old.state.kept es was out
    pub quiet : old.read ≡ false → out ≡ was
    pub cost : steps + 2 * length was ≤ before + 4 * length es + 2 * length out

  -- the events ran through the right input of a node, in at most four steps each and two for each new one; a node that nothing reads made none
  pub record RunsRight (old new : Held C) (es was out : List (Event C)) (before steps : ℕ) : Type 0 where
    pub same : SameHeld new old
    pub stands : FollowsRights old.state.node old.state.kept new.state.kept es
    pub leads : old.read ≡ true → LeadsRights old.state.node old.state.kept es was out
    pub quiet : old.read ≡ false → out ≡ was
    pub cost : steps + 2 * length was ≤ before + 4 * length es + 2 * length out

  -- the events of both inputs ran through a node
  pub record Stepped (old new : Held C) (ls rs out : List (Event C)) (before steps : ℕ) : Type 0 where
    pub same : SameHeld new old
    pub stands : FollowsBoth old.state.node old.state.kept new.state.kept ls rs
    pub leads : old.read ≡ true → LeadsBoth old.state.node old.state.kept ls rs out
    pub quiet : old.read ≡ false → out ≡ []
    pub cost : steps ≤ before + 4 * (length ls + length rs) + 2 * length out

  -- what the node with this state keeps stands for its inputs, by the rows of the feeds and of the nodes
  abbrev pub StandsAt : Held C → List (List (List C)) → List (List (List C)) → Type 0
  StandsAt s f v = Stands R s.state.node s.state.kept (rows_from f v (left_in s.state.node)) (rows_from f v (right_in s.state.node))

  abbrev pub AllStand : List (Held C) → List (List (List C)) → List (List (List C)) → Type 0
  AllStand states f v = (i : ℕ) (d : Held C) → i < length states → StandsAt (slice_index_or states i d) f v

  -- each node has the rows that its inputs give it
  abbrev pub AreValues : List (Held C) → List (List (List C)) → List (List (List C)) → Type 0
  AreValues states f v = (i : ℕ) (d : Held C) → i < length states → rows_at v i ≡ value_in R f v (slice_index_or states i d).state.node

  -- all rows ascend and have their widths
  pub record AreRows (widths : List ℕ) (v : List (List (List C))) : Type 0 where
    pub ascend : (i : ℕ) → IsStrictlySortedBy (slice_cmp R) (rows_at v i)
    pub wide : (i : ℕ) → IsWide (width_at widths i) (rows_at v i)

  -- before the event of a feed: f and v are the rows of the feeds and of the nodes, g and w those after it
  pub record Before (states : List (Held C)) (feed : ℕ) (event : Event C) (feeds nodes : List ℕ) (f g v w : List (List (List C))) : Type 0 where
    pub changes : (k : ℕ) → Leads R (rows_at f k) (at_feed feed event k) (rows_at g k)
    pub event_wide : length (row_in event) ≡ width_at feeds feed
    pub placed : ArePlaced states feeds nodes
    pub widths : HaveWidths states feeds nodes
    pub values : AreValues states f v
    pub values_after : AreValues states g w
    pub feed_rows : AreRows feeds f
    pub rows : AreRows nodes v
    pub read : AreRead states
    pub stand : AllStand states f v

  -- the pass takes at most eight steps for each of the loads
  abbrev pub Costs : List (Held C) → ℕ → Event C → ℕ → ℕ → Type 0
  Costs old feed event before steps =
      (feeds nodes : List ℕ) (f g v w : List (List (List C))) → Before old feed event feeds nodes f g v w → steps ≤ before + 8 * all_loads (map (λ s. s.state.node) old) (loads_of R feed v w (map (λ s. s.state.node) old))

  -- after the pass all nodes stand for what they read then
  abbrev pub Passed : List (Held C) → List (Held C) → ℕ → Event C → Type 0
  Passed old new feed event = (feeds nodes : List ℕ) (f g v w : List (List (List C))) → Before old feed event feeds nodes f g v w → AllStand new g w
