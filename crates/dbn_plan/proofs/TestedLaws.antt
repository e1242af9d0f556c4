-- What the tests owe of their queries and networks.
use Rattle.std.proofs.Common.{◌≡◌, ◌<◌, ◌≤◌, ℕ, Bool, true, false, not, List, [], ◌∷◌, ◌++◌, map, refl, ap, sym, ◌∙◌, subst, length, arith}
use Rattle.std.specs.Prelude.{slice_index_or}
use Rattle.std.specs.declared.cmp.Ordering.{Ordering}
use Rattle.std.specs.Cmp.Lexicographic.{slice_cmp}
use Rattle.std.proofs.lemmas.List.{length-map, length-set}
use Rattle.dbn_value.specs.declared.value.ColType.{ColType}
use Rattle.dbn_nodes.specs.declared.node.Node.{Node}
use Rattle.dbn_nodes.specs.declared.node.Node.TheVariants as node
use Rattle.dbn_nodes.specs.Tables.{has}
use Rattle.dbn_nodes.specs.Changes.{signed}
use Rattle.dbn_instance.specs.Facts.{changed, Fits as FitsNow}
use Rattle.dbn_network.specs.Values.{val}
use Rattle.dbn_network.specs.States.{State, with_node, with_feeds, change_at}
use Rattle.dbn_plan.specs.Making.{IsOpen, Grown}
use Rattle.dbn_plan.specs.Tested.{IsTested}
use Rattle.dbn_plan.proofs.StepLaws.{grown_at}
use Rattle.dbn_plan.proofs.AtomMade.{scan_made, scan_rows}

append_nil : {A : Type 0} (xs : List A) → xs ++ [] ≡ xs
append_nil [] = refl
append_nil (x ∷ xs) = ap (λ ys. x ∷ ys) (append_nil xs)

module _ {C : Type 0} where
  pub tested_open : (s : State C) → IsTested s → IsOpen s
  tested_open s tested = record { live = tested.live; places = []; relations_first = tested.rels ∙ sym (append_nil s.rels) }

  pub tested_new : (rels places : List (List ColType)) (s : State C) → places ≡ []
      → s ≡ record { live = true; rels = rels; shapes = rels ++ places; nodes = []; feeds = map (λ shape. []) (rels ++ places) } → IsTested s
  tested_new rels places s none e =
      let empty : List ColType → List (List C) = λ shape. [] in
      let alone : rels ++ places ≡ rels = ap (λ ps. rels ++ ps) none ∙ append_nil rels in
      subst IsTested (sym e) (record { live = refl; rels = alone; feeds = length-map (rels ++ places) empty ∙ ap length alone })

  pub tested_after : (a b : State C) → Grown a b → IsTested a → IsTested b
  tested_after a b grown tested = record {
    live = grown.live ∙ tested.live;
    rels = grown.shapes ∙ tested.rels ∙ sym grown.rels;
    feeds = ap length grown.feeds ∙ tested.feeds ∙ ap length (sym grown.rels);
  }

  pub tested_scan : (old mid : State C) (relation : ℕ) → mid ≡ with_node old (node.Scan relation) → IsTested old → IsTested mid
  tested_scan old mid relation e tested = tested_after old mid (grown_at old mid (node.Scan relation) e) tested

  module _ (R : C → C → Ordering) where
    -- a row that is not there comes, and one that is there goes
    pub turn_fits : (old mid : State C) (relation scan : ℕ) (row : List C) (there : Bool) → mid ≡ with_node old (node.Scan relation) → scan ≡ length old.nodes → IsTested old → relation < length old.rels
        → there ≡ has (slice_cmp R) (val R scan mid.nodes mid.feeds) row → FitsNow R mid.feeds (change_at relation (signed (not there) row))
    turn_fits old mid relation scan row there e e_scan tested h is =
        let rows : val R scan mid.nodes mid.feeds ≡ slice_index_or mid.feeds relation [] = scan_rows R old mid relation scan mid.feeds (tested_open old tested) h (scan_made old mid relation scan e e_scan) in
        let now : there ≡ has (slice_cmp R) (slice_index_or mid.feeds relation []) row = is ∙ ap (λ rs. has (slice_cmp R) rs row) rows in
        elim there as (λ b. b ≡ has (slice_cmp R) (slice_index_or mid.feeds relation []) row → FitsNow R mid.feeds (change_at relation (signed (not b) row))) [ true ↦ λ e. sym e | false ↦ λ e. sym e ] now

    changed_length : (feeds : List (List (List C))) (k : ℕ) (b : Bool) (row : List C) → length (changed R feeds (change_at k (signed b row))) ≡ length feeds
    changed_length feeds k true row = length-set feeds k _
    changed_length feeds k false row = length-set feeds k _

    pub turned_tested : (old mid new : State C) (relation : ℕ) (row : List C) (b : Bool) → mid ≡ with_node old (node.Scan relation) → new ≡ with_feeds mid (changed R mid.feeds (change_at relation (signed b row)))
        → IsTested old → IsTested new
    turned_tested old mid new relation row b e e_new tested =
        let there = tested_scan old mid relation e tested in
        subst IsTested (sym e_new) (record { live = there.live; rels = there.rels; feeds = changed_length mid.feeds relation b row ∙ there.feeds })

    pub turned_more : (old mid new : State C) (relation : ℕ) (row : List C) (b : Bool) → mid ≡ with_node old (node.Scan relation) → new ≡ with_feeds mid (changed R mid.feeds (change_at relation (signed b row)))
        → length old.nodes ≤ length new.nodes
    turned_more old mid new relation row b e e_new =
        let more : length mid.nodes ≡ length (with_node old (node.Scan relation)).nodes = ap (λ (s : State C). length s.nodes) e in
        let same : length new.nodes ≡ length mid.nodes = ap (λ (s : State C). length s.nodes) e_new in
        let longer : length old.nodes ≤ length (old.nodes ++ node.Scan relation ∷ []) = grown_longer old.nodes (node.Scan relation ∷ []) in
        omega (arith, more, same, longer)
      where
        grown_longer : (xs ys : List (Node C)) → length xs ≤ length (xs ++ ys)
        grown_longer [] ys = omega arith
        grown_longer (x ∷ xs) ys = let rest = grown_longer xs ys in omega (arith, rest)
