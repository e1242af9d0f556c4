-- What the tests of networks owe.
use Rattle.std.proofs.Common.{◌≡◌, ◌<◌, ◌≤◌, ℕ, zero, suc, ⊎_elim, Bool, true, false, not, List, [], ◌∷◌, ◌++◌, refl, ap, sym, ◌∙◌, subst, length, get_or, map, append_assoc, lit<, arith}
use Rattle.std.specs.Prelude.{IsTrue}
use Rattle.std.specs.declared.cmp.Ordering.{Ordering}
use Rattle.std.specs.Cmp.Lexicographic.{slice_cmp}
use Rattle.std.proofs.lemmas.List.{length-map, length-set, length-append, get_or_append_left}
use Rattle.dbn_value.specs.declared.value.ColType.{ColType}
use Rattle.dbn_value.specs.Members.{In}
use Rattle.dbn_nodes.specs.declared.node.Node.{Node}
use Rattle.dbn_nodes.specs.declared.node.Node.TheVariants as node
use Rattle.dbn_nodes.specs.Tables.{has}
use Rattle.dbn_nodes.specs.Changes.{signed}
use Rattle.dbn_instance.specs.Facts.{changed, Fits as FitsNow}
use Rattle.dbn_network.specs.Values.{rows_at, value_in, values, val}
use Rattle.dbn_network.specs.States.{State, feed_widths, widths, TestIn, FitsAt, with_node, with_feeds, change_at}
use Rattle.dbn_network.specs.Worked.{columns, scans, lacking, other_kinds, AllFit, IsReady, SameNodes}
use Rattle.dbn_network.proofs.ValueLaws.{IsEarly, each_value}

-- ---- the nodes fit

one_of : (P : ℕ → Type 0) (c : ℕ) → P c → (col : ℕ) → In col (c ∷ []) → P col
one_of P c here col at = ⊎_elim (λ e. subst P (sym e) here) (λ none. absurd none) at

five : (feeds : List (List ColType)) → feed_widths feeds ≡ columns → length feeds ≡ 5
five feeds e = sym (length-map feeds length) ∙ ap length e

append_nil : {A : Type 0} (xs : List A) → xs ++ [] ≡ xs
append_nil [] = refl
append_nil (x ∷ xs) = ap (λ ys. x ∷ ys) (append_nil xs)

module _ {C : Type 0} where
  scan_fits : (feeds nodes : List ℕ) (k before : ℕ) → k < length feeds → FitsAt {C = C} feeds nodes before (node.Scan k)
  scan_fits feeds nodes k before h = record { left = h; right = tt; names = tt }

  scans_fit : AllFit {C = C} columns [] scans
  scans_fit = (scan_fits columns _ 0 0 (lit< tt), (scan_fits columns _ 1 1 (lit< tt), (scan_fits columns _ 2 2 (lit< tt), (scan_fits columns _ 3 3 (lit< tt), (scan_fits columns _ 4 4 (lit< tt), tt)))))

  lacking_fit : AllFit {C = C} columns scans lacking
  unfolding widths
  lacking_fit = (
    record { left = lit< tt; right = lit< tt; names = refl },
    (
      record { left = lit< tt; right = lit< tt; names = λ p at. absurd at },
      (
        record { left = lit< tt; right = lit< tt; names = refl },
        (
          record { left = lit< tt; right = tt; names = one_of (λ c. c < 2) 0 (lit< tt) },
          (
            record { left = lit< tt; right = lit< tt; names = refl },
            tt,
          ),
        ),
      ),
    ),
  )

  others_fit : AllFit {C = C} columns (scans ++ lacking) other_kinds
  unfolding widths
  others_fit = (
    record { left = lit< tt; right = tt; names = one_of (λ c. c < 2) 0 (lit< tt) },
    (
      record { left = tt; right = tt; names = tt },
      (
        record { left = lit< tt; right = lit< tt; names = refl },
        (
          record { left = lit< tt; right = tt; names = λ x at. ⊎_elim (λ e. subst (TestIn 2) (sym e) (lit< tt, lit< tt)) (λ none. absurd none) at },
          (
            record { left = lit< tt; right = lit< tt; names = λ p at. ⊎_elim (λ e. subst (λ (q : ℕ × ℕ). (q.0 < 2) × (q.1 < 1)) (sym e) (lit< tt, lit< tt)) (λ none. absurd none) at },
            (
              record { left = lit< tt; right = tt; names = lit< tt },
              tt,
            ),
          ),
        ),
      ),
    ),
  )

  pub fit_by : (feeds : List ℕ) (before nodes nodes_here now : List (Node C)) → AllFit columns nodes_here now → feeds ≡ columns → before ≡ nodes_here → nodes ≡ now → AllFit feeds before nodes
  fit_by feeds before nodes here now fit e1 e2 e3 = subst (λ f. AllFit f before nodes) (sym e1) (subst (λ ns. AllFit columns ns nodes) (sym e2) (subst (AllFit columns here) (sym e3) fit))

  pub scans_fit_by : (feeds : List ℕ) (before nodes : List (Node C)) → feeds ≡ columns → before ≡ [] → nodes ≡ scans → AllFit feeds before nodes
  scans_fit_by feeds before nodes e1 e2 e3 = fit_by feeds before nodes [] scans scans_fit e1 e2 e3

  pub lacking_fit_by : (feeds : List ℕ) (before nodes : List (Node C)) → feeds ≡ columns → before ≡ scans → nodes ≡ lacking → AllFit feeds before nodes
  lacking_fit_by feeds before nodes e1 e2 e3 = fit_by feeds before nodes scans lacking lacking_fit e1 e2 e3

  pub others_fit_by : (feeds : List ℕ) (before nodes : List (Node C)) → feeds ≡ columns → before ≡ scans ++ lacking → nodes ≡ other_kinds → AllFit feeds before nodes
  others_fit_by feeds before nodes e1 e2 e3 = fit_by feeds before nodes (scans ++ lacking) other_kinds others_fit e1 e2 e3

  -- ---- nodes that are added, one behind the other

  pub record Adding (first : State C) (whole : List (Node C)) (now : State C) (left : List (Node C)) : Type 0 where
    pub live : IsTrue now.live
    pub fit : AllFit (feed_widths now.shapes) now.nodes left
    pub nodes : now.nodes ++ left ≡ first.nodes ++ whole
    pub rels : now.rels ≡ first.rels
    pub shapes : now.shapes ≡ first.shapes
    pub feeds : now.feeds ≡ first.feeds

  pub one_more : (first : State C) (whole : List (Node C)) (old new : State C) (n : Node C) (items rest : List (Node C)) → items ≡ n ∷ rest → new ≡ with_node old n → Adding first whole old items → Adding first whole new rest
  one_more first whole old new n items rest is made so =
      subst (λ s. Adding first whole s rest) (sym made) (record {
        live = so.live;
        fit = (subst (AllFit (feed_widths old.shapes) old.nodes) is so.fit).1;
        nodes = append_assoc old.nodes (n ∷ []) rest ∙ ap (λ ns. old.nodes ++ ns) (sym is) ∙ so.nodes;
        rels = so.rels;
        shapes = so.shapes;
        feeds = so.feeds;
      })

  -- ---- networks that tests run

  scan_at : (k : ℕ) → k < 5 → (d : Node C) → get_or scans k d ≡ node.Scan k
  scan_at zero h d = refl
  scan_at (suc zero) h d = refl
  scan_at (suc (suc zero)) h d = refl
  scan_at (suc (suc (suc zero))) h d = refl
  scan_at (suc (suc (suc (suc zero)))) h d = refl
  scan_at (suc (suc (suc (suc (suc k))))) h d = absurd (omega arith)

  pub ready_scans : (rels none : List (List ColType)) (old new : State C) → old ≡ record { live = true; rels = rels; shapes = rels ++ none; nodes = []; feeds = map (λ shape. []) (rels ++ none) } → none ≡ [] → feed_widths rels ≡ columns
      → IsTrue new.live → new.nodes ≡ old.nodes ++ scans → new.rels ≡ old.rels → new.shapes ≡ old.shapes → new.feeds ≡ old.feeds → IsReady new
  ready_scans rels none old new is empty wide live nodes rels_now shapes feeds =
      let all : rels ++ none ≡ rels = ap (λ xs. rels ++ xs) empty ∙ append_nil rels in
      let own_nodes : new.nodes ≡ scans = nodes ∙ ap (λ (s : State C). s.nodes ++ scans) is in
      let own_shapes : new.shapes ≡ rels = shapes ∙ ap (λ (s : State C). s.shapes) is ∙ all in
      record {
        live = live;
        rels = rels_now ∙ ap (λ (s : State C). s.rels) is ∙ sym own_shapes;
        widths = ap feed_widths own_shapes ∙ wide;
        feeds = ap length (feeds ∙ ap (λ (s : State C). s.feeds) is) ∙ length-map (rels ++ none) (λ shape. []) ∙ ap length all ∙ five rels wide;
        count = subst (λ (ns : List (Node C)). 5 ≤ length ns) (sym own_nodes) (omega arith);
        scans = λ k h d. ap (λ ns. get_or ns k d) own_nodes ∙ scan_at k h d;
      }

  pub ready_more : (old new : State C) (nodes : List (Node C)) → IsReady old → IsTrue new.live → new.nodes ≡ old.nodes ++ nodes → new.rels ≡ old.rels → new.shapes ≡ old.shapes → new.feeds ≡ old.feeds → IsReady new
  ready_more old new nodes ready live nodes_now rels shapes feeds = record {
    live = live;
    rels = rels ∙ ready.rels ∙ sym shapes;
    widths = ap feed_widths shapes ∙ ready.widths;
    feeds = ap length feeds ∙ ready.feeds;
    count = subst (λ (ns : List (Node C)). 5 ≤ length ns) (sym nodes_now) (let many = ready.count in let both = length-append old.nodes nodes in omega arith);
    scans = λ k h d. ap (λ ns. get_or ns k d) nodes_now ∙ get_or_append_left old.nodes nodes d k (let many = ready.count in omega arith) ∙ ready.scans k h d;
  }

  pub same_then : (a b c : State C) → SameNodes b a → SameNodes c b → SameNodes c a
  same_then a b c x y = record { ready = y.ready; nodes = y.nodes ∙ x.nodes }

  pub same_none : (a : State C) → IsReady a → SameNodes a a
  same_none a ready = record { ready = ready; nodes = refl }

  pub rels_five : (s : State C) → IsReady s → length s.rels ≡ 5
  rels_five s ready = ap length ready.rels ∙ five s.shapes ready.widths

  module _ (R : C → C → Ordering) where
    scan_rows : (s : State C) → IsReady s → (k : ℕ) → k < 5 → val R k s.nodes s.feeds ≡ rows_at s.feeds k
    scan_rows s ready k h =
        let many = ready.count in
        each_value R s.feeds columns s.nodes k node.Unit (omega arith) (subst (IsEarly columns k) (sym (ready.scans k h node.Unit)) (h, tt)) ∙ ap (value_in R s.feeds (values R s.feeds s.nodes)) (ready.scans k h node.Unit)

    -- a row that is not there comes, and one that is there goes
    pub turn_fits : (s : State C) (k : ℕ) (row : List C) (there : Bool) → IsReady s → k < 5 → there ≡ has (slice_cmp R) (val R k s.nodes s.feeds) row → FitsNow R s.feeds (change_at k (signed (not there) row))
    turn_fits s k row there ready h is =
        let now : there ≡ has (slice_cmp R) (rows_at s.feeds k) row = is ∙ ap (λ rows. has (slice_cmp R) rows row) (scan_rows s ready k h) in
        elim there as (λ b. b ≡ has (slice_cmp R) (rows_at s.feeds k) row → FitsNow R s.feeds (change_at k (signed (not b) row))) [ true ↦ λ e. sym e | false ↦ λ e. sym e ] now

    changed_length : (feeds : List (List (List C))) (k : ℕ) (b : Bool) (row : List C) → length (changed R feeds (change_at k (signed b row))) ≡ length feeds
    changed_length feeds k true row = length-set feeds k _
    changed_length feeds k false row = length-set feeds k _

    pub turned_same : (old new : State C) (k : ℕ) (row : List C) (b : Bool) → IsReady old → new ≡ with_feeds old (changed R old.feeds (change_at k (signed b row))) → SameNodes new old
    turned_same old new k row b ready is =
        subst (λ s. SameNodes s old) (sym is) (record {
          ready = record { live = ready.live; rels = ready.rels; widths = ready.widths; feeds = changed_length old.feeds k b row ∙ ready.feeds; count = ready.count; scans = ready.scans };
          nodes = refl;
        })
