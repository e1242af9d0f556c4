-- A network with one more node.
use Rattle.std.proofs.Common.{◌≡◌, ◌<◌, ◌≤◌, ◌+◌, ℕ, suc, ◌⊎◌, inl, inr, ⊎_elim, true, List, [], ◌∷◌, ◌++◌, refl, ap, sym, ◌∙◌, subst, length, take, get_or, map, arith}
use Rattle.std.proofs.lemmas.Bool.{cases_lt, cases_eq}
use Rattle.std.specs.Prelude.{slice_set}
use Rattle.std.specs.declared.cmp.Ordering.{Ordering}
use Rattle.std.specs.Cmp.{IsTotalOrder}
use Rattle.std.specs.Cmp.Lexicographic.{slice_cmp}
use Rattle.std.specs.FinMap.{IsAntisymmetric}
use Rattle.std.proofs.lemmas.List.{get_or_append_left, length-append, map-append, length-set, get_or-set_same, get_or-set_other, length-map}
use Rattle.std.proofs.Math.Seq.{get_or-append_seam}
use Rattle.dbn_value.specs.declared.value.ColType.{ColType}
use Rattle.dbn_value.proofs.ListLaws.{take_more}
use Rattle.dbn_value.proofs.AscendingLaws.{sorted_nil}
use Rattle.dbn_value.proofs.MemberLaws.{in_map}
use Rattle.std.specs.List.Sorted.{IsStrictlySortedBy}
use Rattle.dbn_nodes.specs.declared.node.Node.{Node}
use Rattle.dbn_nodes.specs.declared.event.Event.{Event}
use Rattle.dbn_nodes.specs.declared.state.Kept.{Kept}
use Rattle.dbn_nodes.specs.Changes.{row_in, signed, Leads}
use Rattle.dbn_nodes.specs.Stands.{Stands, FollowsLeft, FollowsRight}
use Rattle.dbn_nodes.proofs.ChangeLaws.{plus_all}
use Rattle.dbn_nodes.proofs.NodeLaws.{sorted_apart}
use Rattle.dbn_network.specs.declared.held.Held.{Held}
use Rattle.dbn_network.specs.declared.input.Input.{Input}
use Rattle.dbn_network.specs.declared.input.Input.TheVariants as input
use Rattle.dbn_network.specs.Inputs.{left_in, right_in}
use Rattle.dbn_network.specs.Values.{built, rows_at, rows_from, value_in, values}
use Rattle.dbn_network.specs.States.{width_at, width_from, width_in, feed_widths, widths, IsThere, NamesIn, FitsAt}
use Rattle.dbn_network.specs.Passes.{IsWide, AreWide, Proper, FollowsLefts, FollowsRights, StandsAt}
use Rattle.dbn_network.specs.Holding.{nodes_of, feeds_of, AreEarlier, MarkedBy, Marked, IsNetwork}
use Rattle.dbn_network.proofs.RunLaws.{follows_left_more, follows_right_more}
use Rattle.dbn_network.proofs.ValueLaws.{built_more, built_stay, built_length}
use Rattle.dbn_network.proofs.FeedLaws.{Table}
use Rattle.dbn_network.proofs.HoldLaws.{count_nodes}
use Rattle.dbn_network.proofs.TableLaws.{from_proper}

-- ---- later nodes change no earlier ones

module _ {C : Type 0} (R : C → C → Ordering) (f : List (List (List C))) where
  pub value_stays : (nodes more : List (Node C)) (i : ℕ) → i < length nodes → rows_at (values R f (nodes ++ more)) i ≡ rows_at (values R f nodes) i
  unfolding values
  value_stays nodes more i h =
      let size = built_length (value_in R f) [] nodes in
      ap (λ vs. rows_at vs i) (built_more (value_in R f) [] nodes more) ∙ built_stay (value_in R f) (built (value_in R f) [] nodes) more i [] (omega arith)

  pub rows_stay : (nodes more : List (Node C)) (feeds : ℕ) (x : Input) → IsThere feeds (length nodes) x → rows_from f (values R f (nodes ++ more)) x ≡ rows_from f (values R f nodes) x
  rows_stay nodes more feeds input.Nothing there = refl
  rows_stay nodes more feeds (input.Feed k) there = refl
  rows_stay nodes more feeds (input.Earlier i) there = value_stays nodes more i there

module _ {C : Type 0} (feeds : List ℕ) where
  pub width_stays : (nodes more : List (Node C)) (i : ℕ) → i < length nodes → width_at (widths feeds (nodes ++ more)) i ≡ width_at (widths feeds nodes) i
  unfolding widths
  width_stays nodes more i h =
      let size = built_length (width_in feeds) [] nodes in
      ap (λ vs. width_at vs i) (built_more (width_in feeds) [] nodes more) ∙ built_stay (width_in feeds) (built (width_in feeds) [] nodes) more i 0 (omega arith)

  width_from_stays : (nodes more : List (Node C)) (count : ℕ) (x : Input) → IsThere count (length nodes) x → width_from feeds (widths feeds (nodes ++ more)) x ≡ width_from feeds (widths feeds nodes) x
  width_from_stays nodes more count input.Nothing there = refl
  width_from_stays nodes more count (input.Feed k) there = refl
  width_from_stays nodes more count (input.Earlier i) there = width_stays nodes more i there

pub there_more : (count i j : ℕ) (x : Input) → i ≤ j → IsThere count i x → IsThere count j x
there_more count i j input.Nothing h there = tt
there_more count i j (input.Feed k) h there = there
there_more count i j (input.Earlier k) h there = omega arith

module _ {C : Type 0} (feeds : List ℕ) (nodes : List (Node C)) (more : List (Node C)) where
  pub fits_stays : (n : Node C) (i : ℕ) → i ≤ length nodes → FitsAt feeds (widths feeds nodes) i n → FitsAt feeds (widths feeds (nodes ++ more)) i n
  fits_stays n i h fits = record {
    left = fits.left;
    right = fits.right;
    names = subst (λ l. NamesIn n l (width_from feeds (widths feeds (nodes ++ more)) (right_in n))) (sym (width_from_stays feeds nodes more (length feeds) (left_in n) (there_more (length feeds) i (length nodes) (left_in n) h fits.left)))
        (subst (NamesIn n (width_from feeds (widths feeds nodes) (left_in n))) (sym (width_from_stays feeds nodes more (length feeds) (right_in n) (there_more (length feeds) i (length nodes) (right_in n) h fits.right))) fits.names);
  }

-- ---- a new node over rows that are there

module _ {C : Type 0} {R : C → C → Ordering} (o : IsTotalOrder R) (exact : IsAntisymmetric R) where
  -- all rows come, one after the other
  pub all_come : (s : List (List C)) → IsStrictlySortedBy (slice_cmp R) s → Leads R [] (map (signed true) s) s
  all_come s sorted = plus_all o exact s [] s (sorted_nil (slice_cmp R)) sorted (record {
    apart = sorted_apart o exact s sorted;
    fresh = λ x at none. none;
    back = λ x at. inl at;
    front = λ x at. at;
    keep = λ x none. absurd none;
  })

  coming_wide : (w : ℕ) (s : List (List C)) → IsWide w s → AreWide w (map (signed true) s)
  coming_wide w s ws e at = let image = in_map (signed true) e s at in ap (λ x. length (row_in x)) image.2 ∙ ws image.0 image.1

  pub filled : (n : Node C) (k0 k1 k2 : Kept C) (l r : ℕ) (s t : List (List C)) → NamesIn n l r → Proper R l r s t → Stands R n k0 [] [] → FollowsLefts R n k0 k1 (map (signed true) s) → FollowsRights R n k1 k2 (map (signed true) t) → Stands R n k2 s t
  filled n k0 k1 k2 l r s t names p st left right =
      right l r s [] t names (record { lefts = p.lefts; rights = sorted_nil (slice_cmp R); wide_left = p.wide_left; wide_right = λ row at. absurd at }) (coming_wide r t p.wide_right)
      (left l r [] s [] names (record { lefts = sorted_nil (slice_cmp R); rights = sorted_nil (slice_cmp R); wide_left = λ row at. absurd at; wide_right = λ row at. absurd at }) (coming_wide l s p.wide_left) st (all_come s p.lefts))
      (all_come t p.rights)

  pub fill_left_step : (n : Node C) (k0 k1 k2 : Kept C) (rows : List (List C)) (i : ℕ) (row : List C) (e : Event C) → i < length rows → row ≡ get_or rows i row → e ≡ signed true row
      → FollowsLefts R n k0 k1 (map (signed true) (take i rows)) → FollowsLeft R n k1 k2 e → FollowsLefts R n k0 k2 (map (signed true) (take (i + 1) rows))
  fill_left_step n k0 k1 k2 rows i row e within is e_is all one =
      subst (FollowsLefts R n k0 k2) (sym (ap (map (signed true)) (take_more rows i row within is) ∙ map-append (signed true) (take i rows) (row ∷ [])))
      (follows_left_more o exact n k0 k1 k2 (map (signed true) (take i rows)) (signed true row) all (subst (FollowsLeft R n k1 k2) e_is one))

  pub fill_right_step : (n : Node C) (k0 k1 k2 : Kept C) (rows : List (List C)) (i : ℕ) (row : List C) (e : Event C) → i < length rows → row ≡ get_or rows i row → e ≡ signed true row
      → FollowsRights R n k0 k1 (map (signed true) (take i rows)) → FollowsRight R n k1 k2 e → FollowsRights R n k0 k2 (map (signed true) (take (i + 1) rows))
  fill_right_step n k0 k1 k2 rows i row e within is e_is all one =
      subst (FollowsRights R n k0 k2) (sym (ap (map (signed true)) (take_more rows i row within is) ∙ map-append (signed true) (take i rows) (row ∷ [])))
      (follows_right_more o exact n k0 k1 k2 (map (signed true) (take i rows)) (signed true row) all (subst (FollowsRight R n k1 k2) e_is one))

module _ {C : Type 0} {R : C → C → Ordering} (o : IsTotalOrder R) (exact : IsAntisymmetric R) (shapes : List (List ColType)) (states : List (Held C)) (tables : List (Table C)) (net : IsNetwork R shapes states tables) where
  -- a node that took the rows of its inputs stands for them
  pub new_stands : (n n0 n1 : Node C) (h : Held C) (k0 k1 : Kept C) (lefts rights : List (List C)) → n0 ≡ n → n1 ≡ n0 → h.state.node ≡ n1 → Stands R n k0 [] [] → FollowsLefts R n0 k0 k1 (map (signed true) lefts) → FollowsRights R n1 k1 h.state.kept (map (signed true) rights)
      → lefts ≡ rows_from (feeds_of R tables) (values R (feeds_of R tables) (nodes_of states)) (left_in n) → rights ≡ rows_from (feeds_of R tables) (values R (feeds_of R tables) (nodes_of states)) (right_in n)
      → FitsAt (feed_widths shapes) (widths (feed_widths shapes) (nodes_of states)) (length states) n → StandsAt R h (feeds_of R tables) (values R (feeds_of R tables) (nodes_of states))
  new_stands n n0 n1 h k0 k1 lefts rights is0 is1 is2 st left right ls rs fits =
      let left_now : FollowsLefts R n k0 k1 (map (signed true) (rows_from (feeds_of R tables) (values R (feeds_of R tables) (nodes_of states)) (left_in n))) =
      subst (λ rows. FollowsLefts R n k0 k1 (map (signed true) rows)) ls (subst (λ m. FollowsLefts R m k0 k1 (map (signed true) lefts)) is0 left) in
      let right_now : FollowsRights R n k1 h.state.kept (map (signed true) (rows_from (feeds_of R tables) (values R (feeds_of R tables) (nodes_of states)) (right_in n))) =
      subst (λ rows. FollowsRights R n k1 h.state.kept (map (signed true) rows)) rs (subst (λ m. FollowsRights R m k1 h.state.kept (map (signed true) rights)) (is1 ∙ is0) right) in
      subst (λ m. Stands R m h.state.kept (rows_from (feeds_of R tables) (values R (feeds_of R tables) (nodes_of states)) (left_in m)) (rows_from (feeds_of R tables) (values R (feeds_of R tables) (nodes_of states)) (right_in m))) (sym (is2 ∙ is1 ∙ is0))
      (filled o exact n k0 k1 h.state.kept (width_from (feed_widths shapes) (widths (feed_widths shapes) (nodes_of states)) (left_in n)) (width_from (feed_widths shapes) (widths (feed_widths shapes) (nodes_of states)) (right_in n))
      (rows_from (feeds_of R tables) (values R (feeds_of R tables) (nodes_of states)) (left_in n)) (rows_from (feeds_of R tables) (values R (feeds_of R tables) (nodes_of states)) (right_in n))
      fits.names (from_proper o exact shapes states tables net (left_in n) (right_in n)) st left_now right_now)

-- ---- marks

module _ {C : Type 0} where
  pub not_marked : (old : List (Held C)) (x : Input) → ((k : ℕ) → x ≡ input.Earlier k → ⊥) → MarkedBy old old x
  not_marked old x none = record { size = refl; states = λ i d. refl; stay = λ k e is. is; read = λ k e. absurd (none k e) }

  pub marked_at : (old : List (Held C)) (i : ℕ) (s : Held C) → i < length old → ((d : Held C) → s.state ≡ (get_or old i d).state) → s.read ≡ true → MarkedBy old (slice_set old i s) (input.Earlier i)
  marked_at old i s within same read = record {
    size = length-set old i s;
    states = λ j d. ⊎_elim
        (λ here. subst (λ k. (get_or (slice_set old i s) k d).state ≡ (get_or old k d).state) (sym here) (ap (λ x. x.state) (get_or-set_same old i s d within) ∙ same d))
        (λ other. ap (λ x. x.state) (get_or-set_other old i j s d other)) (cases_eq j i);
    stay = λ k e was. ⊎_elim
        (λ here. subst (λ j. (get_or (slice_set old i s) j e).read ≡ true) (sym here) (ap (λ x. x.read) (get_or-set_same old i s e within) ∙ read))
        (λ other. ap (λ x. x.read) (get_or-set_other old i k s e other) ∙ was) (cases_eq k i);
    read = λ k is e. subst (λ j. (get_or (slice_set old i s) j e).read ≡ true) (earlier_is i k is) (ap (λ x. x.read) (get_or-set_same old i s e within) ∙ read);
  }
    where
      earlier_is : (a b : ℕ) → input.Earlier a ≡ input.Earlier b → a ≡ b
      earlier_is a b e = cc

  pub marked_both : (old mid new : List (Held C)) (n : Node C) → MarkedBy old mid (left_in n) → MarkedBy mid new (right_in n) → Marked old new n
  marked_both old mid new n l r = record {
    size = r.size ∙ l.size;
    states = λ i d. r.states i d ∙ l.states i d;
    stay = λ k e was. r.stay k e (l.stay k e was);
    read = λ k reads e. ⊎_elim (λ left. r.stay k e (l.read k left e)) (λ right. r.read k right e) reads;
  }

-- ---- the network with it

module _ {C : Type 0} {R : C → C → Ordering} (shapes : List (List ColType)) (states : List (Held C)) (tables : List (Table C)) (net : IsNetwork R shapes states tables) where
  same_nodes : (xs ys : List (Held C)) → length xs ≡ length ys → ((i : ℕ) (d : Held C) → (get_or xs i d).state ≡ (get_or ys i d).state) → nodes_of xs ≡ nodes_of ys
  same_nodes [] [] size same = refl
  same_nodes [] (y ∷ ys) size same = absurd (omega arith)
  same_nodes (x ∷ xs) [] size same = absurd (omega arith)
  same_nodes (x ∷ xs) (y ∷ ys) size same = ap (λ s. s.node ∷ nodes_of xs) (same 0 x) ∙ ap (λ ns. y.state.node ∷ ns) (same_nodes xs ys (omega arith) (λ i d. same (suc i) d))

  module _ (marked : List (Held C)) (h : Held C) (m : Marked states marked h.state.node) (fits : FitsAt (feed_widths shapes) (widths (feed_widths shapes) (nodes_of states)) (length states) h.state.node)
      (stands : StandsAt R h (feeds_of R tables) (values R (feeds_of R tables) (nodes_of states))) where
    pub nodes_after : nodes_of (marked ++ h ∷ []) ≡ nodes_of states ++ h.state.node ∷ []
    nodes_after = map-append (λ s. s.state.node) marked (h ∷ []) ∙ ap (λ ns. ns ++ h.state.node ∷ []) (same_nodes marked states m.size m.states)

    abbrev more : List (Node C)
    more = h.state.node ∷ []

    many : length (marked ++ h ∷ []) ≡ length states + 1
    many = let both = length-append marked (h ∷ []) in let size = m.size in omega arith

    -- an element of the longer list is an old one, or the new one
    old_at : (i : ℕ) (d : Held C) → i < length states → get_or (marked ++ h ∷ []) i d ≡ get_or marked i d
    old_at i d below = get_or_append_left marked (h ∷ []) d i (let size = m.size in omega arith)

    new_at : (i : ℕ) (d : Held C) → i ≡ length states → get_or (marked ++ h ∷ []) i d ≡ h
    new_at i d e = ap (λ k. get_or (marked ++ h ∷ []) k d) (e ∙ sym m.size) ∙ get_or-append_seam marked h [] d

    each : (P : ℕ → Held C → Type 0) → ((i : ℕ) (d : Held C) → i < length states → P i (get_or marked i d)) → P (length states) h → (i : ℕ) (d : Held C) → i < length (marked ++ h ∷ []) → P i (get_or (marked ++ h ∷ []) i d)
    each P old new i d within = ⊎_elim
        (λ below. subst (P i) (sym (old_at i d below)) (old i d below))
        (λ past. let is : i ≡ length states = let size = many in omega arith in subst (P i) (sym (new_at i d is)) (subst (λ k. P k h) (sym is) new))
        (cases_lt i (length states))

    stands_after : (i : ℕ) (s : Held C) → i ≤ length states → FitsAt (feed_widths shapes) (widths (feed_widths shapes) (nodes_of states)) i s.state.node → StandsAt R s (feeds_of R tables) (values R (feeds_of R tables) (nodes_of states))
        → StandsAt R s (feeds_of R tables) (values R (feeds_of R tables) (nodes_of states ++ more))
    stands_after i s h' fits' st =
        let size = count_nodes states in
        subst (λ x. Stands R s.state.node s.state.kept x (rows_from (feeds_of R tables) (values R (feeds_of R tables) (nodes_of states ++ more)) (right_in s.state.node)))
        (sym (rows_stay R (feeds_of R tables) (nodes_of states) more (length (feed_widths shapes)) (left_in s.state.node) (there_more (length (feed_widths shapes)) i (length (nodes_of states)) (left_in s.state.node) (omega arith) fits'.left)))
        (subst (Stands R s.state.node s.state.kept (rows_from (feeds_of R tables) (values R (feeds_of R tables) (nodes_of states)) (left_in s.state.node)))
        (sym (rows_stay R (feeds_of R tables) (nodes_of states) more (length (feed_widths shapes)) (right_in s.state.node) (there_more (length (feed_widths shapes)) i (length (nodes_of states)) (right_in s.state.node) (omega arith) fits'.right))) st)

    marked_fits : (i : ℕ) (d : Held C) → i < length states → FitsAt (feed_widths shapes) (widths (feed_widths shapes) (nodes_of states)) i (get_or marked i d).state.node
    marked_fits i d below = subst (λ s. FitsAt (feed_widths shapes) (widths (feed_widths shapes) (nodes_of states)) i s.node) (sym (m.states i d)) (net.placed i d below)

    marked_stands : (i : ℕ) (d : Held C) → i < length states → StandsAt R (get_or marked i d) (feeds_of R tables) (values R (feeds_of R tables) (nodes_of states))
    marked_stands i d below =
        subst (λ s. Stands R s.node s.kept (rows_from (feeds_of R tables) (values R (feeds_of R tables) (nodes_of states)) (left_in s.node)) (rows_from (feeds_of R tables) (values R (feeds_of R tables) (nodes_of states)) (right_in s.node)))
        (sym (m.states i d)) (net.stand i d below)

    before_it : (i k : ℕ) (x : Input) → i ≤ length states → IsThere (length (feed_widths shapes)) i x → x ≡ input.Earlier k → k < length states
    before_it i k x h' there e = let lower : IsThere (length (feed_widths shapes)) i (input.Earlier k) = subst (IsThere (length (feed_widths shapes)) i) e there in omega arith

    pub network_more : IsNetwork R shapes (marked ++ h ∷ []) tables
    network_more = record {
      size = net.size;
      fed = net.fed;
      shaped = net.shaped;
      placed = λ i d within. subst (λ ns. FitsAt (feed_widths shapes) (widths (feed_widths shapes) ns) i (get_or (marked ++ h ∷ []) i d).state.node) (sym nodes_after)
          (each (λ j s. FitsAt (feed_widths shapes) (widths (feed_widths shapes) (nodes_of states ++ more)) j s.state.node)
          (λ j e below. fits_stays (feed_widths shapes) (nodes_of states) more (get_or marked j e).state.node j (let size = count_nodes states in omega arith) (marked_fits j e below))
          (fits_stays (feed_widths shapes) (nodes_of states) more h.state.node (length states) (let size = count_nodes states in omega arith) fits) i d within);
      read = each (λ j s. (k : ℕ) → (left_in s.state.node ≡ input.Earlier k) ⊎ (right_in s.state.node ≡ input.Earlier k) → (e : Held C) → (get_or (marked ++ h ∷ []) k e).read ≡ true)
          (λ j d below k reads e.
          let fits' = marked_fits j d below in
          let lower : k < length states = ⊎_elim (λ l. before_it j k (left_in (get_or marked j d).state.node) (omega arith) fits'.left l) (λ r. before_it j k (right_in (get_or marked j d).state.node) (omega arith) fits'.right r) reads in
          ap (λ x. x.read) (old_at k e lower) ∙ m.stay k e (net.read j d below k (⊎_elim (λ l. inl (ap (λ s. left_in s.node) (sym (m.states j d)) ∙ l)) (λ r. inr (ap (λ s. right_in s.node) (sym (m.states j d)) ∙ r)) reads) e))
          (λ k reads e.
          let lower : k < length states = ⊎_elim (λ l. before_it (length states) k (left_in h.state.node) (omega arith) fits.left l) (λ r. before_it (length states) k (right_in h.state.node) (omega arith) fits.right r) reads in
          ap (λ x. x.read) (old_at k e lower) ∙ m.read k reads e);
      stand = λ i d within. subst (λ ns. StandsAt R (get_or (marked ++ h ∷ []) i d) (feeds_of R tables) (values R (feeds_of R tables) ns)) (sym nodes_after)
          (each (λ j s. StandsAt R s (feeds_of R tables) (values R (feeds_of R tables) (nodes_of states ++ more)))
          (λ j e below. stands_after j (get_or marked j e) (omega arith) (marked_fits j e below) (marked_stands j e below))
          (stands_after (length states) h (omega arith) fits stands) i d within);
    }

there_count : (a b i : ℕ) (x : Input) → a ≡ b → IsThere a i x → IsThere b i x
there_count a b i x e there = subst (λ n. IsThere n i x) e there

module _ {C : Type 0} {R : C → C → Ordering} where
  feeds_count : (shapes : List (List ColType)) (states : List (Held C)) (tables : List (Table C)) → IsNetwork R shapes states tables → length (feed_widths shapes) ≡ length tables
  feeds_count shapes states tables net = length-map shapes length ∙ sym net.size

  -- the inputs of the nodes come before them
  pub earlier_of : (shapes : List (List ColType)) (states : List (Held C)) (tables : List (Table C)) → IsNetwork R shapes states tables → AreEarlier (length tables) states
  earlier_of shapes states tables net i d h =
      let fits = net.placed i d h in
      let same = feeds_count shapes states tables net in
      (there_count (length (feed_widths shapes)) (length tables) i (left_in (get_or states i d).state.node) same fits.left, there_count (length (feed_widths shapes)) (length tables) i (right_in (get_or states i d).state.node) same fits.right)

  pub fits_there : (shapes : List (List ColType)) (states : List (Held C)) (tables : List (Table C)) (n : Node C) → IsNetwork R shapes states tables → FitsAt (feed_widths shapes) (widths (feed_widths shapes) (nodes_of states)) (length states) n
      → IsThere (length tables) (length states) (left_in n) × IsThere (length tables) (length states) (right_in n)
  fits_there shapes states tables n net fits =
      let same = feeds_count shapes states tables net in
      (there_count (length (feed_widths shapes)) (length tables) (length states) (left_in n) same fits.left, there_count (length (feed_widths shapes)) (length tables) (length states) (right_in n) same fits.right)
