-- A network before and after the event of a feed.
use Rattle.std.proofs.Common.{◌≡◌, ◌<◌, ◌==◌, ℕ, zero, suc, inl, inr, ⊎_elim, Bool, true, false, cond, List, [], ◌∷◌, refl, ap, sym, ◌∙◌, subst, length, get_or, arith}
use Rattle.std.proofs.lemmas.Bool.{cases_eq, eqb-true, eq-eqb, false_from_ne_true}
use Rattle.std.specs.Prelude.{slice_set}
use Rattle.std.specs.declared.cmp.Ordering.{Ordering}
use Rattle.std.specs.Cmp.{IsTotalOrder}
use Rattle.std.specs.Cmp.Lexicographic.{slice_cmp}
use Rattle.std.specs.FinMap.{IsAntisymmetric}
use Rattle.std.specs.List.Sorted.{IsStrictlySortedBy}
use Rattle.std.proofs.lemmas.List.{get_or-set_same, get_or-set_other, length-set, length-map, get_or-map}
use Rattle.dbn_value.specs.Members.{In}
use Rattle.dbn_value.specs.declared.value.ColType.{ColType}
use Rattle.dbn_nodes.specs.declared.node.Node.{Node}
use Rattle.dbn_nodes.specs.declared.event.Event.{Event}
use Rattle.dbn_nodes.specs.Changes.{row_in, Leads}
use Rattle.dbn_nodes.specs.Stands.{IsPlain}
use Rattle.dbn_instance.specs.Facts.{changed, Fits as FitsNow}
use Rattle.dbn_network.specs.declared.held.Held.{Held}
use Rattle.dbn_network.specs.Inputs.{left_in, right_in}
use Rattle.dbn_network.specs.Values.{rows_at, value_in, values}
use Rattle.dbn_network.specs.States.{width_at, width_in, feed_widths, widths, FitsAt, change_at}
use Rattle.dbn_network.specs.Passes.{Alike, AreWide, at_feed, AreRows, AreValues, HaveWidths, Before, Passed, AllStand}
use Rattle.dbn_network.specs.Holding.{nodes_of, held_rows, feeds_of, IsNetwork}
use Rattle.dbn_network.proofs.RunLaws.{leads_ascend, leads_wide}
use Rattle.dbn_network.proofs.PassLaws.{alike_nodes}
use Rattle.dbn_network.proofs.ValueLaws.{value_at, width_is, rows_good}
use Rattle.dbn_network.proofs.FeedLaws.{Table, after, feed_sorted, fits_leads, changed_is, Noted}

module _ {C : Type 0} where
  pub node_at : (states : List (Held C)) (i : ℕ) (d : Node C) → i < length (nodes_of states) → (s : Held C) × (s ≡ get_or states i s) × (get_or (nodes_of states) i d ≡ s.state.node)
  node_at [] i d h = absurd (omega arith)
  node_at (x ∷ states) zero d h = (x, refl, refl)
  node_at (x ∷ states) (suc i) d h = node_at states i d (omega arith)

  pub node_is : (states : List (Held C)) (i : ℕ) (d : Held C) → i < length states → get_or (nodes_of states) i d.state.node ≡ (get_or states i d).state.node
  node_is states i d h = get_or-map (λ s. s.state.node) states i d d.state.node h

  pub count_nodes : (states : List (Held C)) → length (nodes_of states) ≡ length states
  count_nodes states = length-map states (λ s. s.state.node)

module _ {C : Type 0} {R : C → C → Ordering} (o : IsTotalOrder R) (exact : IsAntisymmetric R) (shapes : List (List ColType)) (states : List (Held C)) (tables : List (Table C)) (net : IsNetwork R shapes states tables) where
  pub nodes_placed : (i : ℕ) (d : Node C) → i < length (nodes_of states) → FitsAt (feed_widths shapes) (widths (feed_widths shapes) (nodes_of states)) i (get_or (nodes_of states) i d)
  nodes_placed i d h =
      let (s, is, e) = node_at states i d h in
      let size = count_nodes states in
      subst (FitsAt (feed_widths shapes) (widths (feed_widths shapes) (nodes_of states)) i) (sym (e ∙ ap (λ x. x.state.node) is)) (net.placed i s (omega arith))

  pub feeds_good : AreRows R (feed_widths shapes) (feeds_of R tables)
  feeds_good = record { ascend = feed_sorted o exact tables; wide = net.shaped }

  -- the rows of the nodes are their values
  pub values_are : AreValues R states (feeds_of R tables) (values R (feeds_of R tables) (nodes_of states))
  values_are i d h =
      let size = count_nodes states in
      value_at o exact (feed_widths shapes) (nodes_of states) (feeds_of R tables) nodes_placed feeds_good i d.state.node (omega arith)
      ∙ ap (value_in R (feeds_of R tables) (values R (feeds_of R tables) (nodes_of states))) (node_is states i d h)

  pub widths_are : HaveWidths states (feed_widths shapes) (widths (feed_widths shapes) (nodes_of states))
  widths_are i d h =
      let size = count_nodes states in
      width_is o exact (feed_widths shapes) (nodes_of states) (feeds_of R tables) nodes_placed feeds_good i d.state.node (omega arith)
      ∙ ap (width_in (feed_widths shapes) (widths (feed_widths shapes) (nodes_of states))) (node_is states i d h)

  pub rows_are : AreRows R (widths (feed_widths shapes) (nodes_of states)) (values R (feeds_of R tables) (nodes_of states))
  rows_are = rows_good o exact (feed_widths shapes) (nodes_of states) (feeds_of R tables) nodes_placed feeds_good

  module _ (feed : ℕ) (e : Event C) (within : feed < length tables) (wide : length (row_in e) ≡ width_at (feed_widths shapes) feed) (fits : FitsNow R (feeds_of R tables) (change_at feed e)) where
    abbrev next : List (List (List C))
    next = changed R (feeds_of R tables) (change_at feed e)

    inside : feed < length (feeds_of R tables)
    inside = let size = length-map tables (held_rows R) in omega arith

    pub next_here : rows_at next feed ≡ after R (rows_at (feeds_of R tables) feed) e
    next_here = ap (λ g. rows_at g feed) (changed_is o exact (feeds_of R tables) feed e) ∙ get_or-set_same (feeds_of R tables) feed (after R (rows_at (feeds_of R tables) feed) e) [] inside

    pub next_other : (k : ℕ) → (k ≡ feed → ⊥) → rows_at next k ≡ rows_at (feeds_of R tables) k
    next_other k other = ap (λ g. rows_at g k) (changed_is o exact (feeds_of R tables) feed e) ∙ get_or-set_other (feeds_of R tables) feed k (after R (rows_at (feeds_of R tables) feed) e) [] other

    feeds_lead : (k : ℕ) → Leads R (rows_at (feeds_of R tables) k) (at_feed feed e k) (rows_at next k)
    feeds_lead k = ⊎_elim
        (λ here. subst (λ j. Leads R (rows_at (feeds_of R tables) j) (at_feed feed e j) (rows_at next j)) (sym here)
        (subst (λ b. Leads R (rows_at (feeds_of R tables) feed) (cond b (e ∷ []) []) (rows_at next feed)) (sym (eq-eqb feed feed refl))
        (subst (Leads R (rows_at (feeds_of R tables) feed) (e ∷ [])) (sym next_here) (fits_leads o exact (feeds_of R tables) feed e fits))))
        (λ other. subst (λ b. Leads R (rows_at (feeds_of R tables) k) (cond b (e ∷ []) []) (rows_at next k)) (sym (false_from_ne_true (k == feed) (λ t. other (eqb-true k feed t)))) (sym (next_other k other)))
        (cases_eq k feed)

    event_wide : (k : ℕ) (c : Bool) → (k == feed) ≡ c → AreWide (width_at (feed_widths shapes) k) (cond c (e ∷ []) [])
    event_wide k true t = λ x at. ⊎_elim (λ is. ap (λ y. length (row_in y)) is ∙ wide ∙ ap (width_at (feed_widths shapes)) (sym (eqb-true k feed t))) (λ none. absurd none) at
    event_wide k false t = λ x at. absurd at

    next_good : AreRows R (feed_widths shapes) next
    next_good = record {
      ascend = λ k. leads_ascend o exact (at_feed feed e k) (rows_at (feeds_of R tables) k) (rows_at next k) (feeds_good.ascend k) (feeds_lead k);
      wide = λ k. leads_wide o exact (width_at (feed_widths shapes) k) (at_feed feed e k) (rows_at (feeds_of R tables) k) (rows_at next k) (feeds_good.ascend k) (feeds_good.wide k) (event_wide k (k == feed) refl) (feeds_lead k);
    }

    next_values : AreValues R states next (values R next (nodes_of states))
    next_values i d h =
        let size = count_nodes states in
        value_at o exact (feed_widths shapes) (nodes_of states) next nodes_placed next_good i d.state.node (omega arith) ∙ ap (value_in R next (values R next (nodes_of states))) (node_is states i d h)

    pub before : Before R states feed e (feed_widths shapes) (widths (feed_widths shapes) (nodes_of states)) (feeds_of R tables) next (values R (feeds_of R tables) (nodes_of states)) (values R next (nodes_of states))
    before = record {
      changes = feeds_lead;
      event_wide = wide;
      placed = net.placed;
      widths = widths_are;
      values = values_are;
      values_after = next_values;
      feed_rows = feeds_good;
      rows = rows_are;
      read = net.read;
      stand = net.stand;
    }

    -- the rows of the feed after the event ascend
    pub after_sorted : IsStrictlySortedBy (slice_cmp R) (after R (rows_at (feeds_of R tables) feed) e)
    after_sorted = subst (IsStrictlySortedBy (slice_cmp R)) next_here (next_good.ascend feed)

    pub network_after : (table : Table C) (new : List (Held C)) → Noted o exact tables feed e table → Alike new states → Passed R states new feed e → IsNetwork R shapes new (slice_set tables feed table)
    network_after table new noted alike passed =
        let nodes_same : nodes_of new ≡ nodes_of states = alike_nodes new states alike in
        let feeds_next : feeds_of R (slice_set tables feed table) ≡ next = noted.feeds in
        record {
          size = length-set tables feed table ∙ net.size;
          fed = λ k. subst (λ g. IsPlain R (get_or (slice_set tables feed table) k []) (rows_at g k)) (sym feeds_next) (⊎_elim
              (λ here. subst (λ j. IsPlain R (get_or (slice_set tables feed table) j []) (rows_at next j)) (sym here)
              (subst (IsPlain R (get_or (slice_set tables feed table) feed [])) (sym next_here)
              (subst (λ t. IsPlain R t (after R (rows_at (feeds_of R tables) feed) e)) (sym (get_or-set_same tables feed table [] within)) noted.plain)))
              (λ other. subst (IsPlain R (get_or (slice_set tables feed table) k [])) (sym (next_other k other))
              (subst (λ t. IsPlain R t (rows_at (feeds_of R tables) k)) (sym (get_or-set_other tables feed k table [] other)) (net.fed k)))
              (cases_eq k feed));
          shaped = λ k. subst (λ g. (row : List C) → In row (rows_at g k) → length row ≡ width_at (feed_widths shapes) k) (sym feeds_next) (next_good.wide k);
          placed = λ i d h. subst (λ ns. FitsAt (feed_widths shapes) (widths (feed_widths shapes) ns) i (get_or new i d).state.node) (sym nodes_same)
              (subst (FitsAt (feed_widths shapes) (widths (feed_widths shapes) (nodes_of states)) i) (sym (alike.nodes i d).node) (net.placed i d (let size = alike.size in omega arith)));
          read = λ i d h k reads e'. (alike.nodes k e').read ∙ net.read i d (let size = alike.size in omega arith) k
              (⊎_elim (λ l. inl (ap left_in (sym (alike.nodes i d).node) ∙ l)) (λ r. inr (ap right_in (sym (alike.nodes i d).node) ∙ r)) reads) e';
          stand = subst (λ g. AllStand R new g (values R g (nodes_of new))) (sym feeds_next) (subst (λ ns. AllStand R new next (values R next ns)) (sym nodes_same)
              (passed (feed_widths shapes) (widths (feed_widths shapes) (nodes_of states)) (feeds_of R tables) next (values R (feeds_of R tables) (nodes_of states)) (values R next (nodes_of states)) before));
        }
