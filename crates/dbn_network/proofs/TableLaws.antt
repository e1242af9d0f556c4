-- The rows of a node, from what the network holds.
use Rattle.std.proofs.Common.{◌≡◌, ◌<◌, ℕ, inl, Bool, false, ◌&&◌, ◌↔◌, IsTrue, List, [], ◌∷◌, refl, ap, sym, ◌∙◌, subst, length, get_or, nat_lt}
use Rattle.std.specs.declared.cmp.Ordering.{Ordering}
use Rattle.std.specs.Cmp.{IsTotalOrder}
use Rattle.std.specs.Ordering.{eq_by_cmp}
use Rattle.std.proofs.lemmas.Bool.{true≢false}
use Rattle.std.specs.Cmp.Lexicographic.{slice_cmp}
use Rattle.std.specs.FinMap.{IsAntisymmetric}
use Rattle.std.specs.List.Sorted.{IsStrictlySortedBy}
use Rattle.dbn_value.specs.declared.value.ColType.{ColType}
use Rattle.dbn_value.proofs.AscendingLaws.{sorted_nil}
use Rattle.dbn_nodes.specs.declared.node.Node.{Node}
use Rattle.dbn_nodes.specs.declared.node.Node.TheVariants as node
use Rattle.dbn_nodes.specs.Tables.{choose, count_at, has, AreRowsOf}
use Rattle.dbn_nodes.specs.Values.{value_of}
use Rattle.dbn_nodes.specs.Stands.{IsPlain, Good, Stands}
use Rattle.dbn_nodes.specs.Answering.{AreLefts, AreRowsAt, IsLookedUp, IsCounted}
use Rattle.dbn_nodes.proofs.AnswerLaws.{plain_rows, both_then}
use Rattle.dbn_nodes.proofs.ChangeLaws.{in_row}
use Rattle.dbn_nodes.proofs.NodeLaws.{plain_has}
use Rattle.dbn_network.specs.declared.held.Held.{Held}
use Rattle.dbn_network.specs.declared.input.Input.{Input}
use Rattle.dbn_network.specs.declared.input.Input.TheVariants as input
use Rattle.dbn_network.specs.Inputs.{left_in, right_in, needed_in}
use Rattle.dbn_network.specs.Values.{rows_at, rows_from, value_in, values}
use Rattle.dbn_network.specs.States.{width_from, feed_widths, widths, IsThere, FitsAt}
use Rattle.dbn_network.specs.Passes.{IsWide, Proper, StandsAt}
use Rattle.dbn_network.specs.Holding.{nodes_of, feeds_of, AreEarlier, IsDirect, IsNetwork}
use Rattle.dbn_network.proofs.PassLaws.{same_inside}
use Rattle.dbn_network.proofs.RunLaws.{good_of}
use Rattle.dbn_network.proofs.FeedLaws.{Table}
use Rattle.dbn_network.proofs.HoldLaws.{feeds_good, rows_are, values_are}

module _ {C : Type 0} where
  pub needed_there : (n : Node C) (feeds before : ℕ) → IsThere feeds before (left_in n) → IsThere feeds before (needed_in n)
  needed_there node.Unit feeds before there = there
  needed_there (node.Scan feed) feeds before there = there
  needed_there (node.Select from tests) feeds before there = there
  needed_there (node.Join left right on) feeds before there = there
  needed_there (node.Diff left right) feeds before there = tt
  needed_there (node.Project from cols) feeds before there = tt
  needed_there (node.Union left right) feeds before there = tt
  needed_there (node.Extend from with) feeds before there = there

  needed_lefts : (n : Node C) (f v : List (List (List C))) → AreLefts n (rows_from f v (needed_in n)) (rows_from f v (left_in n))
  needed_lefts node.Unit f v = tt
  needed_lefts (node.Scan feed) f v = refl
  needed_lefts (node.Select from tests) f v = refl
  needed_lefts (node.Join left right on) f v = refl
  needed_lefts (node.Diff left right) f v = tt
  needed_lefts (node.Project from cols) f v = tt
  needed_lefts (node.Union left right) f v = tt
  needed_lefts (node.Extend from with) f v = refl

  -- a node that tells at once whether it has a row, and is no scan, looks the row up
  pub direct_looked : (n : Node C) → IsDirect n → ((feed : ℕ) → n ≡ node.Scan feed → ⊥) → IsLookedUp n
  direct_looked node.Unit direct none = tt
  direct_looked (node.Scan feed) direct none = absurd (none feed refl)
  direct_looked (node.Select from tests) direct none = direct
  direct_looked (node.Join left right on) direct none = direct
  direct_looked (node.Diff left right) direct none = tt
  direct_looked (node.Project from cols) direct none = tt
  direct_looked (node.Union left right) direct none = tt
  direct_looked (node.Extend from with) direct none = direct

module _ {C : Type 0} where
  pub counted_direct : (n : Node C) → IsCounted n → IsDirect n
  counted_direct node.Unit counted = tt
  counted_direct (node.Scan feed) counted = tt
  counted_direct (node.Select from tests) counted = counted
  counted_direct (node.Join left right on) counted = counted
  counted_direct (node.Diff left right) counted = tt
  counted_direct (node.Project from cols) counted = tt
  counted_direct (node.Union left right) counted = tt
  counted_direct (node.Extend from with) counted = counted

module _ {C : Type 0} {R : C → C → Ordering} (o : IsTotalOrder R) (exact : IsAntisymmetric R) where
  plain_empty : (table : Table C) (s : List (List C)) → IsPlain R table s → ((k r : List C) → count_at (slice_cmp R) table k r ≡ 0) ↔ (s ≡ [])
  plain_empty table s plain = (
    λ none. no_rows_left s (λ row. sym (plain_has o exact table s row plain) ∙ ap (nat_lt 0) (none [] row)),
    λ e k r. plain k r ∙ ap (λ rows. choose (has (slice_cmp R) rows r && eq_by_cmp (slice_cmp R) [] k) 1 0) e,
  )
    where
      no_rows_left : (rows : List (List C)) → ((row : List C) → has (slice_cmp R) rows row ≡ false) → rows ≡ []
      no_rows_left [] none = refl
      no_rows_left (x ∷ rows) none = absurd (true≢false (sym (in_row o exact x (x ∷ rows) (inl refl)) ∙ none x))

module _ {C : Type 0} {R : C → C → Ordering} (o : IsTotalOrder R) (exact : IsAntisymmetric R) (shapes : List (List ColType)) (states : List (Held C)) (tables : List (Table C)) (net : IsNetwork R shapes states tables) where
  -- the rows of an input ascend and have its width
  pub from_sorted : (x : Input) → IsStrictlySortedBy (slice_cmp R) (rows_from (feeds_of R tables) (values R (feeds_of R tables) (nodes_of states)) x)
  from_sorted input.Nothing = sorted_nil (slice_cmp R)
  from_sorted (input.Feed k) = (feeds_good o exact shapes states tables net).ascend k
  from_sorted (input.Earlier k) = (rows_are o exact shapes states tables net).ascend k

  pub from_wide : (x : Input) → IsWide (width_from (feed_widths shapes) (widths (feed_widths shapes) (nodes_of states)) x) (rows_from (feeds_of R tables) (values R (feeds_of R tables) (nodes_of states)) x)
  from_wide input.Nothing = λ row at. absurd at
  from_wide (input.Feed k) = (feeds_good o exact shapes states tables net).wide k
  from_wide (input.Earlier k) = (rows_are o exact shapes states tables net).wide k

  pub from_proper : (x y : Input) → Proper R (width_from (feed_widths shapes) (widths (feed_widths shapes) (nodes_of states)) x) (width_from (feed_widths shapes) (widths (feed_widths shapes) (nodes_of states)) y)
      (rows_from (feeds_of R tables) (values R (feeds_of R tables) (nodes_of states)) x) (rows_from (feeds_of R tables) (values R (feeds_of R tables) (nodes_of states)) y)
  from_proper x y = record { lefts = from_sorted x; rights = from_sorted y; wide_left = from_wide x; wide_right = from_wide y }

  pub feed_rows_are : (k : ℕ) (rows : List (List C)) → AreRowsOf (slice_cmp R) (get_or tables k []) [] rows → rows ≡ rows_at (feeds_of R tables) k
  feed_rows_are k rows are = plain_rows o exact (get_or tables k []) (rows_at (feeds_of R tables) k) rows ((feeds_good o exact shapes states tables net).ascend k) (net.fed k) are

  module _ (i : ℕ) (s : Held C) (within : i < length states) (is : s ≡ get_or states i s) where
    node_good : Good R s.state.node (rows_from (feeds_of R tables) (values R (feeds_of R tables) (nodes_of states)) (left_in s.state.node)) (rows_from (feeds_of R tables) (values R (feeds_of R tables) (nodes_of states)) (right_in s.state.node))
    node_good =
        good_of o exact s.state.node (width_from (feed_widths shapes) (widths (feed_widths shapes) (nodes_of states)) (left_in s.state.node)) (width_from (feed_widths shapes) (widths (feed_widths shapes) (nodes_of states)) (right_in s.state.node)) _ _
        (subst (λ x. FitsAt (feed_widths shapes) (widths (feed_widths shapes) (nodes_of states)) i x.state.node) (sym is) (net.placed i s within)).names
        (from_proper (left_in s.state.node) (right_in s.state.node))

    pub node_stands : StandsAt R s (feeds_of R tables) (values R (feeds_of R tables) (nodes_of states))
    node_stands = subst (λ x. StandsAt R x (feeds_of R tables) (values R (feeds_of R tables) (nodes_of states))) (sym is) (net.stand i s within)

    pub node_value : rows_at (values R (feeds_of R tables) (nodes_of states)) i ≡ value_in R (feeds_of R tables) (values R (feeds_of R tables) (nodes_of states)) s.state.node
    node_value = values_are o exact shapes states tables net i s within ∙ ap (λ x. value_in R (feeds_of R tables) (values R (feeds_of R tables) (nodes_of states)) x.state.node) (sym is)

    -- the rows that the node tells are its value
    pub node_rows : (lefts rows : List (List C)) → AreRowsAt R s.state.node s.state.kept lefts rows → lefts ≡ rows_from (feeds_of R tables) (values R (feeds_of R tables) (nodes_of states)) (needed_in s.state.node)
        → rows ≡ rows_at (values R (feeds_of R tables) (nodes_of states)) i
    node_rows lefts rows are lefts_are =
        are (rows_from (feeds_of R tables) (values R (feeds_of R tables) (nodes_of states)) (left_in s.state.node)) (rows_from (feeds_of R tables) (values R (feeds_of R tables) (nodes_of states)) (right_in s.state.node)) node_good node_stands
        (subst (λ l. AreLefts s.state.node l (rows_from (feeds_of R tables) (values R (feeds_of R tables) (nodes_of states)) (left_in s.state.node))) (sym lefts_are) (needed_lefts s.state.node (feeds_of R tables) (values R (feeds_of R tables) (nodes_of states))))
        ∙ sym node_value

    -- .. where it needs this input
    pub node_rows_by : (x : Input) (lefts rows : List (List C)) → needed_in s.state.node ≡ x → AreRowsAt R s.state.node s.state.kept lefts rows → lefts ≡ rows_from (feeds_of R tables) (values R (feeds_of R tables) (nodes_of states)) x
        → rows ≡ rows_at (values R (feeds_of R tables) (nodes_of states)) i
    node_rows_by x lefts rows e are lefts_are = node_rows lefts rows are (lefts_are ∙ ap (rows_from (feeds_of R tables) (values R (feeds_of R tables) (nodes_of states))) (sym e))

    -- what holds of the node's rows over all inputs that it stands for, holds of its value
    pub node_answers : (P : List (List C) → Type 0) → ((ls rs : List (List C)) → Stands R s.state.node s.state.kept ls rs → P (value_of R s.state.node ls rs)) → P (rows_at (values R (feeds_of R tables) (nodes_of states)) i)
    node_answers P of =
        subst P (sym node_value)
        (of (rows_from (feeds_of R tables) (values R (feeds_of R tables) (nodes_of states)) (left_in s.state.node)) (rows_from (feeds_of R tables) (values R (feeds_of R tables) (nodes_of states)) (right_in s.state.node)) node_stands)

    module _ (feed : ℕ) (scan : s.state.node ≡ node.Scan feed) where
      scan_value : rows_at (values R (feeds_of R tables) (nodes_of states)) i ≡ rows_at (feeds_of R tables) feed
      scan_value = node_value ∙ ap (value_in R (feeds_of R tables) (values R (feeds_of R tables) (nodes_of states))) scan

      scan_there : AreEarlier (length tables) states → feed < length tables
      scan_there earlier = subst (λ n. IsThere (length tables) i (left_in n)) scan (subst (λ x. IsThere (length tables) i (left_in x.state.node)) (sym is) (earlier i s within).0)

      -- the table of the feed tells whether a scan has the row
      pub scan_has : AreEarlier (length tables) states → (table : Table C) (row : List C) → table ≡ get_or tables feed table → nat_lt 0 (count_at (slice_cmp R) table [] row) ≡ has (slice_cmp R) (rows_at (values R (feeds_of R tables) (nodes_of states)) i) row
      scan_has earlier table row at =
          plain_has o exact table (rows_at (feeds_of R tables) feed) row (subst (λ t. IsPlain R t (rows_at (feeds_of R tables) feed)) (sym (at ∙ same_inside tables feed table [] (scan_there earlier))) (net.fed feed))
          ∙ ap (λ rows. has (slice_cmp R) rows row) (sym scan_value)

      -- the table of the feed tells whether a scan has no rows
      pub scan_empty : AreEarlier (length tables) states → (table : Table C) (empty : Bool) → table ≡ get_or tables feed table → (IsTrue empty ↔ ((k r : List C) → count_at (slice_cmp R) table k r ≡ 0)) → IsTrue empty ↔ (rows_at (values R (feeds_of R tables) (nodes_of states)) i ≡ [])
      scan_empty earlier table empty at told =
          let plain : IsPlain R table (rows_at (feeds_of R tables) feed) = subst (λ t. IsPlain R t (rows_at (feeds_of R tables) feed)) (sym (at ∙ same_inside tables feed table [] (scan_there earlier))) (net.fed feed) in
          subst (λ rows. IsTrue empty ↔ (rows ≡ [])) (sym scan_value) (both_then told (plain_empty o exact table (rows_at (feeds_of R tables) feed) plain))
