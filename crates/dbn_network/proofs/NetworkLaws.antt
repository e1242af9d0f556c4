-- What the calls of a network say, by its fields.
use Rattle.std.proofs.Common.{◌≡◌, ◌<◌, ◌≤◌, ◌+◌, ◌*◌, max, ℕ, ◌⊎◌, ⊎_elim, Bool, true, List, [], ◌∷◌, ◌++◌, ap, sym, ◌∙◌, subst, length, get_or, arith}
use Rattle.std.specs.Prelude.{slice_set, IsTrue}
use Rattle.std.specs.declared.cmp.Ordering.{Ordering}
use Rattle.std.specs.Cmp.{IsTotalOrder}
use Rattle.std.specs.Cmp.Lexicographic.{slice_cmp}
use Rattle.std.specs.FinMap.{IsAntisymmetric}
use Rattle.std.specs.List.Sorted.{IsStrictlySortedBy}
use Rattle.std.proofs.lemmas.List.{length-map}
use Rattle.std.proofs.Math.ListN as listed
use Rattle.dbn_value.specs.declared.value.ColType.{ColType}
use Rattle.dbn_value.specs.Shape.{HasShape}
use Rattle.dbn_nodes.specs.declared.node.Node.{Node}
use Rattle.dbn_nodes.specs.declared.event.Event.{Event}
use Rattle.dbn_nodes.specs.Changes.{row_in, Leads}
use Rattle.dbn_nodes.specs.Stands.{IsPlain}
use Rattle.dbn_instance.specs.Facts.{changed, Fits as FitsNow}
use Rattle.dbn_network.specs.declared.held.Held.{Held}
use Rattle.dbn_network.specs.declared.input.Input.{Input}
use Rattle.dbn_network.specs.declared.input.Input.TheVariants as input
use Rattle.dbn_network.specs.Inputs.{left_in, right_in}
use Rattle.dbn_network.specs.Values.{rows_at, values, val}
use Rattle.dbn_network.specs.States.{State, width_at, feed_widths, widths, IsThere, FitsAt, Fits, with_node, with_feeds, change_at}
use Rattle.dbn_network.specs.Loads.{all_loads, loads_of, bound}
use Rattle.dbn_network.specs.Passes.{Alike, Costs, Passed, StandsAt}
use Rattle.dbn_network.specs.Holding.{nodes_of, held_rows, feeds_of, AreEarlier, Marked, IsNetwork}
use Rattle.dbn_network.specs.Walks.{longer, AreWalks}
use Rattle.dbn_network.proofs.PassLaws.{alike_nodes}
use Rattle.dbn_network.proofs.FeedLaws.{Table, after, feed_sorted, fits_leads, Noted, noted}
use Rattle.dbn_network.proofs.HoldLaws.{count_nodes, node_at, before, after_sorted, network_after}
use Rattle.dbn_network.proofs.CostLaws.{count_loads, within_bound}
use Rattle.dbn_network.proofs.WalkLaws.{walks_more}
use Rattle.dbn_network.proofs.AddLaws.{earlier_of, fits_there, nodes_after, network_more}

module _ {C : Type 0} where
  -- what a network with these fields means
  abbrev pub meant : Bool → List (List ColType) → List (List ColType) → List (Node C) → List (List (List C)) → State C
  meant live rels shapes nodes feeds = record { live = live; rels = rels; shapes = shapes; nodes = nodes; feeds = feeds }

  pub reads_before : (count : ℕ) (states : List (Held C)) → AreEarlier count states → (i : ℕ) (d : Held C) → i < length states → (k : ℕ)
      → (left_in (get_or states i d).state.node ≡ input.Earlier k) ⊎ (right_in (get_or states i d).state.node ≡ input.Earlier k) → k < i
  reads_before count states earlier i d within k reads = ⊎_elim
      (λ l. subst (IsThere count i) l (earlier i d within).0)
      (λ r. subst (IsThere count i) r (earlier i d within).1) reads

  pub shape_wide : (type_of : C → ColType) (shapes : List (List ColType)) (feed : ℕ) (row : List C) → HasShape type_of row (get_or shapes feed []) → length row ≡ width_at (feed_widths shapes) feed
  shape_wide type_of shapes feed row shape = sym (length-map row type_of) ∙ ap length shape ∙ sym (listed.get_or-map length shapes feed [])

module _ {C : Type 0} {R : C → C → Ordering} (o : IsTotalOrder R) (exact : IsAntisymmetric R)
    (live : Bool) (rels shapes : List (List ColType)) (states : List (Held C)) (tables : List (Table C)) (old : State C)
    (view : meant live rels shapes (nodes_of states) (feeds_of R tables) ≡ old) (inv : IsTrue live → IsNetwork R shapes states tables) (is_live : IsTrue old.live) where
  pub network_is : IsNetwork R shapes states tables
  network_is = inv (subst IsTrue (sym (ap (λ (s : State C). s.live) view)) is_live)

  pub walks_kept : (walks : List (List ℕ)) (made : List (List (Event C))) → (IsTrue live → AreWalks (length tables) states walks made) → AreWalks (length tables) states walks made
  walks_kept walks made kept = kept (subst IsTrue (sym (ap (λ (s : State C). s.live) view)) is_live)

  pub are_earlier : AreEarlier (length tables) states
  are_earlier = earlier_of shapes states tables network_is

  pub many_nodes : length old.nodes ≡ length states
  many_nodes = sym (ap (λ (s : State C). length s.nodes) view) ∙ count_nodes states

  pub val_is : (node : ℕ) → rows_at (values R (feeds_of R tables) (nodes_of states)) node ≡ val R node old.nodes old.feeds
  val_is node = ap (λ (s : State C). val R node s.nodes s.feeds) view

  pub held_at : (P : Node C → Type 0) (node : ℕ) (d : Node C) → node < length old.nodes → P (get_or old.nodes node d) → (s : Held C) × P (get_or states node s).state.node
  held_at P node d h holds =
      let many : length old.nodes ≡ length (nodes_of states) = sym (ap (λ (s : State C). length s.nodes) view) in
      let (s, is, e) = node_at states node d (omega arith) in
      (s, subst (λ (x : Held C). P x.state.node) is (subst P e (subst (λ (x : State C). P (get_or x.nodes node d)) (sym view) holds)))

  pub feed_there : (feed : ℕ) → feed < length old.feeds → feed < length tables
  feed_there feed h =
      let size : length old.feeds ≡ length tables = sym (ap (λ (s : State C). length s.feeds) view) ∙ length-map tables (held_rows R) in
      omega arith

  module _ (type_of : C → ColType) (feed : ℕ) (e : Event C) (range : feed < length old.feeds) (shape : HasShape type_of (row_in e) (get_or old.shapes feed [])) (fits : FitsNow R old.feeds (change_at feed e)) where
    fits_is : FitsNow R (feeds_of R tables) (change_at feed e)
    fits_is = subst (λ (s : State C). FitsNow R s.feeds (change_at feed e)) (sym view) fits

    wide_is : length (row_in e) ≡ width_at (feed_widths shapes) feed
    wide_is = shape_wide type_of shapes feed (row_in e) (subst (λ (s : State C). HasShape type_of (row_in e) (get_or s.shapes feed [])) (sym view) shape)

    feed_noted : (table : Table C) → ((s z : List (List C)) → IsStrictlySortedBy (slice_cmp R) s → IsPlain R (get_or tables feed []) s → Leads R s (e ∷ []) z → IsPlain R table z) → Noted o exact tables feed e table
    feed_noted table plain =
        noted o exact tables feed e table
        (plain (rows_at (feeds_of R tables) feed) (after R (rows_at (feeds_of R tables) feed) e) (feed_sorted o exact tables feed) (network_is.fed feed) (fits_leads o exact (feeds_of R tables) feed e fits_is))
        (after_sorted o exact shapes states tables network_is feed e (feed_there feed range) wide_is fits_is)

    pub applied_network : (table : Table C) (new : List (Held C)) → ((s z : List (List C)) → IsStrictlySortedBy (slice_cmp R) s → IsPlain R (get_or tables feed []) s → Leads R s (e ∷ []) z → IsPlain R table z)
        → Alike new states → Passed R states new feed e → IsNetwork R shapes new (slice_set tables feed table)
    applied_network table new plain alike passed = network_after o exact shapes states tables network_is feed e (feed_there feed range) wide_is fits_is table new (feed_noted table plain) alike passed

    pub applied_value : (table : Table C) (new : List (Held C)) → ((s z : List (List C)) → IsStrictlySortedBy (slice_cmp R) s → IsPlain R (get_or tables feed []) s → Leads R s (e ∷ []) z → IsPlain R table z)
        → Alike new states → meant true rels shapes (nodes_of new) (feeds_of R (slice_set tables feed table)) ≡ with_feeds old (changed R old.feeds (change_at feed e))
    applied_value table new plain alike =
        ap (λ ns. meant true rels shapes ns (feeds_of R (slice_set tables feed table))) (alike_nodes new states alike)
        ∙ ap (meant true rels shapes (nodes_of states)) (feed_noted table plain).feeds
        ∙ ap (λ b. meant b rels shapes (nodes_of states) (changed R (feeds_of R tables) (change_at feed e))) (sym (ap (λ (s : State C). s.live) view ∙ is_live))
        ∙ ap (λ (s : State C). with_feeds s (changed R s.feeds (change_at feed e))) view

    -- the step in the feed's table and those of the pass
    pub applied_cost : (first middle last : ℕ) → middle ≡ first + 1 → Costs R states feed e middle last → last ≤ first + max 1 (bound R old.nodes feed old.feeds (changed R old.feeds (change_at feed e)))
    applied_cost first middle last one costs =
        let next : List (List (List C)) = changed R (feeds_of R tables) (change_at feed e) in
        let loads : List ℕ = loads_of R feed (values R (feeds_of R tables) (nodes_of states)) (values R next (nodes_of states)) (nodes_of states) in
        subst (λ (s : State C). last ≤ first + max 1 (bound R s.nodes feed s.feeds (changed R s.feeds (change_at feed e)))) view
        (summed first middle last (all_loads (nodes_of states) loads) (max 1 (8 * (length (nodes_of states) + all_loads (nodes_of states) loads))) one
        (costs (feed_widths shapes) (widths (feed_widths shapes) (nodes_of states)) (feeds_of R tables) next (values R (feeds_of R tables) (nodes_of states)) (values R next (nodes_of states))
        (before o exact shapes states tables network_is feed e (feed_there feed range) wide_is fits_is))
        (within_bound (nodes_of states) loads (count_loads R feed (values R (feeds_of R tables) (nodes_of states)) (values R next (nodes_of states)) (nodes_of states))))
      where
        summed : (first middle last loads most : ℕ) → middle ≡ first + 1 → last ≤ middle + 8 * loads → 1 + 8 * loads ≤ most → last ≤ first + most
        summed first middle last loads most x y z = omega arith

  module _ (n : Node C) (fits : Fits old n) where
    pub fits_now : FitsAt (feed_widths shapes) (widths (feed_widths shapes) (nodes_of states)) (length states) n
    fits_now = subst (λ k. FitsAt (feed_widths shapes) (widths (feed_widths shapes) (nodes_of states)) k n) (count_nodes states) (subst (λ (s : State C). Fits s n) (sym view) fits)

    pub inputs_there : IsThere (length tables) (length states) (left_in n) × IsThere (length tables) (length states) (right_in n)
    inputs_there = fits_there shapes states tables n network_is fits_now

    pub added_network : (marked : List (Held C)) (h : Held C) → h.state.node ≡ n → Marked states marked h.state.node
        → StandsAt R h (feeds_of R tables) (values R (feeds_of R tables) (nodes_of states)) → IsNetwork R shapes (marked ++ h ∷ []) tables
    added_network marked h is m stands =
        network_more shapes states tables network_is marked h m (subst (FitsAt (feed_widths shapes) (widths (feed_widths shapes) (nodes_of states)) (length states)) (sym is) fits_now) stands

    pub added_value : (marked : List (Held C)) (h : Held C) → h.state.node ≡ n → Marked states marked h.state.node
        → StandsAt R h (feeds_of R tables) (values R (feeds_of R tables) (nodes_of states)) → meant true rels shapes (nodes_of (marked ++ h ∷ [])) (feeds_of R tables) ≡ with_node old n
    added_value marked h is m stands =
        ap (λ ns. meant true rels shapes ns (feeds_of R tables)) (nodes_after shapes states tables network_is marked h m (subst (FitsAt (feed_widths shapes) (widths (feed_widths shapes) (nodes_of states)) (length states)) (sym is) fits_now) stands)
        ∙ ap (λ k. meant true rels shapes (nodes_of states ++ k ∷ []) (feeds_of R tables)) is
        ∙ ap (λ b. meant b rels shapes (nodes_of states ++ n ∷ []) (feeds_of R tables)) (sym (ap (λ (s : State C). s.live) view ∙ is_live))
        ∙ ap (λ (s : State C). with_node s n) view

    pub added_walks : (marked : List (Held C)) (h : Held C) → h.state.node ≡ n → Marked states marked h.state.node → StandsAt R h (feeds_of R tables) (values R (feeds_of R tables) (nodes_of states))
        → (walks longest : List (List ℕ)) (made : List (List (Event C))) (left right : Input) (number : ℕ) → (IsTrue live → AreWalks (length tables) states walks made) → left ≡ left_in h.state.node → right ≡ right_in h.state.node → number ≡ length states
        → length longest ≡ length walks → ((k : ℕ) → k < length walks → get_or longest k [] ≡ longer k (get_or walks k []) left right number) → AreWalks (length tables) (marked ++ h ∷ []) longest (made ++ [] ∷ [])
    added_walks marked h is m stands walks longest made left right number kept left_is right_is last size grown =
        walks_more (length tables) states (marked ++ h ∷ []) walks longest made h.state.node number (walks_kept walks made kept)
        (nodes_after shapes states tables network_is marked h m (subst (FitsAt (feed_widths shapes) (widths (feed_widths shapes) (nodes_of states)) (length states)) (sym is) fits_now) stands) last size
        (λ k within. grown k within ∙ ap (λ x. longer k (get_or walks k []) x right number) left_is ∙ ap (λ x. longer k (get_or walks k []) (left_in h.state.node) x number) right_is)
