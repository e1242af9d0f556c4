-- The pass of one event over all nodes, node by node.
use Rattle.std.proofs.Common.{◌≡◌, ◌<◌, ◌≤◌, ◌+◌, ◌*◌, ◌==◌, ℕ, zero, suc, inl, inr, ⊎_elim, Bool, true, false, cond, List, [], ◌∷◌, ◌++◌, refl, ap, sym, ◌∙◌, subst, length, get_or, map, zero-add, arith}
use Rattle.std.proofs.lemmas.Bool.{cases_eq, eqb-true}
use Rattle.std.specs.Prelude.{slice_set}
use Rattle.std.specs.declared.cmp.Ordering.{Ordering}
use Rattle.std.specs.Cmp.Lexicographic.{slice_cmp}
use Rattle.std.specs.List.Sorted.{IsStrictlySortedBy}
use Rattle.std.proofs.lemmas.List.{get_or_append_left, length-append, get_or-set_same, get_or-set_other, length-set}
use Rattle.std.proofs.Math.Seq.{get_or-append_seam}
use Rattle.dbn_value.proofs.AscendingLaws.{sorted_nil}
use Rattle.dbn_nodes.specs.declared.event.Event.{Event}
use Rattle.dbn_nodes.specs.Changes.{row_in, Leads}
use Rattle.dbn_nodes.specs.Stands.{Stands}
use Rattle.dbn_network.specs.declared.held.Held.{Held}
use Rattle.dbn_network.specs.declared.input.Input.{Input}
use Rattle.dbn_network.specs.declared.input.Input.TheVariants as input
use Rattle.dbn_network.specs.Inputs.{left_in, right_in}
use Rattle.dbn_network.specs.Values.{rows_at, rows_from, value_in}
use Rattle.dbn_network.specs.States.{width_at, width_from, wide, IsThere, NamesIn}
use Rattle.dbn_network.specs.Loads.{share_left, share_right}
use Rattle.dbn_network.specs.Passes.{SameHeld, Alike, IsWide, AreWide, events_from, Proper, LeadAll, Stepped, StandsAt, Before, Passed}

pub same_inside : {A : Type 0} (xs : List A) (i : ℕ) (d e : A) → i < length xs → get_or xs i d ≡ get_or xs i e
same_inside [] i d e h = absurd (omega arith)
same_inside (x ∷ xs) zero d e h = refl
same_inside (x ∷ xs) (suc i) d e h = same_inside xs i d e (omega arith)

pub at_any : {A : Type 0} (xs : List A) (i : ℕ) (x : A) → x ≡ get_or xs i x → i < length xs → (d : A) → x ≡ get_or xs i d
at_any xs i x is h d = is ∙ same_inside xs i x d h

module _ {C : Type 0} where
  pub same_none : (s : Held C) → SameHeld s s
  same_none s = record { node = refl; read = refl }

  pub same_then : (a b c : Held C) → SameHeld a b → SameHeld b c → SameHeld a c
  same_then a b c x y = record { node = x.node ∙ y.node; read = x.read ∙ y.read }

  pub alike_none : (xs : List (Held C)) → Alike xs xs
  alike_none xs = record { size = refl; nodes = λ i d. same_none (get_or xs i d) }

  pub alike_set : (xs ys : List (Held C)) (i : ℕ) (x : Held C) → Alike xs ys → i < length xs → ((d : Held C) → SameHeld x (get_or xs i d)) → Alike (slice_set xs i x) ys
  alike_set xs ys i x alike within same = record {
    size = length-set xs i x ∙ alike.size;
    nodes = λ j d. ⊎_elim
        (λ here. subst (λ k. SameHeld (get_or (slice_set xs i x) k d) (get_or ys k d)) (sym here)
        (subst (λ s. SameHeld s (get_or ys i d)) (sym (get_or-set_same xs i x d within)) (same_then x (get_or xs i d) (get_or ys i d) (same d) (alike.nodes i d))))
        (λ other. subst (λ s. SameHeld s (get_or ys j d)) (sym (get_or-set_other xs i j x d other)) (alike.nodes j d))
        (cases_eq j i);
  }

  pub alike_nodes : (xs ys : List (Held C)) → Alike xs ys → map (λ s. s.state.node) xs ≡ map (λ s. s.state.node) ys
  alike_nodes [] [] alike = refl
  alike_nodes [] (y ∷ ys) alike = let size = alike.size in absurd (omega arith)
  alike_nodes (x ∷ xs) [] alike = let size = alike.size in absurd (omega arith)
  alike_nodes (x ∷ xs) (y ∷ ys) alike =
      ap (λ n. n ∷ map (λ s. s.state.node) xs) (alike.nodes 0 x).node
      ∙ ap (λ ns. y.state.node ∷ ns) (alike_nodes xs ys (record { size = let size = alike.size in omega arith; nodes = λ i d. alike.nodes (suc i) d }))

module _ {C : Type 0} (R : C → C → Ordering) where
  pub record SoFar (old : List (Held C)) (feed : ℕ) (event : Event C) (i : ℕ) (now : List (Held C)) (all : List (List (Event C))) : Type 0 where
    pub many : length all ≡ i
    pub alike : Alike now old
    pub untouched : (j : ℕ) (d : Held C) → i ≤ j → get_or now j d ≡ get_or old j d
    pub led : (feeds nodes : List ℕ) (f g v w : List (List (List C))) → Before R old feed event feeds nodes f g v w → (j : ℕ) → j < i → ((d : Held C) → (get_or old j d).read ≡ true) → Leads R (rows_at v j) (get_or all j []) (rows_at w j)
    pub wide : (feeds nodes : List ℕ) (f g v w : List (List (List C))) → Before R old feed event feeds nodes f g v w → (j : ℕ) → j < i → AreWide (width_at nodes j) (get_or all j [])
    pub stood : (feeds nodes : List ℕ) (f g v w : List (List (List C))) → Before R old feed event feeds nodes f g v w → (j : ℕ) (d : Held C) → j < i → StandsAt R (get_or now j d) g w

  pub start : (old : List (Held C)) (feed : ℕ) (event : Event C) → SoFar old feed event 0 old []
  start old feed event = record {
    many = refl;
    alike = alike_none old;
    untouched = λ j d h. refl;
    led = λ feeds nodes f g v w b j h r. absurd (omega arith);
    wide = λ feeds nodes f g v w b j h. absurd (omega arith);
    stood = λ feeds nodes f g v w b j d h. absurd (omega arith);
  }

  pub end : (old now : List (Held C)) (feed : ℕ) (event : Event C) (all : List (List (Event C))) (i : ℕ) → i ≡ length old → SoFar old feed event i now all → Passed R old now feed event
  end old now feed event all i e so feeds nodes f g v w b j d h = let size = so.alike.size in so.stood feeds nodes f g v w b j d (omega arith)

  -- an input before and after, with its events
  pub record Fed (width : ℕ) (s z : List (List C)) (es : List (Event C)) : Type 0 where
    pub ascend : IsStrictlySortedBy (slice_cmp R) s
    pub wide : IsWide width s
    pub events : AreWide width es
    pub leads : Leads R s es z

  module _ (old now : List (Held C)) (feed : ℕ) (event : Event C) (i : ℕ) (all : List (List (Event C))) (so : SoFar old feed event i now all)
      (feeds nodes : List ℕ) (f g v w : List (List (List C))) (b : Before R old feed event feeds nodes f g v w) where
    feed_wide : (k : ℕ) (c : Bool) → (k == feed) ≡ c → AreWide (width_at feeds k) (cond c (event ∷ []) [])
    feed_wide k true e = λ x at. ⊎_elim (λ is. ap (λ y. length (row_in y)) is ∙ b.event_wide ∙ ap (width_at feeds) (sym (eqb-true k feed e))) (λ none. absurd none) at
    feed_wide k false e = λ x at. absurd at

    fed : (x : Input) → IsThere (length feeds) i x → ((k : ℕ) → x ≡ input.Earlier k → (d : Held C) → (get_or old k d).read ≡ true) → Fed (width_from feeds nodes x) (rows_from f v x) (rows_from g w x) (events_from feed event all x)
    fed input.Nothing there read = record { ascend = sorted_nil (slice_cmp R); wide = λ row at. absurd at; events = λ x at. absurd at; leads = refl }
    fed (input.Feed k) there read = record { ascend = b.feed_rows.ascend k; wide = b.feed_rows.wide k; events = feed_wide k (k == feed) refl; leads = b.changes k }
    fed (input.Earlier k) there read = record { ascend = b.rows.ascend k; wide = b.rows.wide k; events = so.wide feeds nodes f g v w b k there; leads = so.led feeds nodes f g v w b k there (read k refl) }

    module _ (s t : Held C) (events : List (Event C)) (before steps : ℕ) (within : i < length old) (is : s ≡ get_or old i s) (step : Stepped R s t (events_from feed event all (left_in s.state.node)) (events_from feed event all (right_in s.state.node)) events before steps) where
      left_fed : Fed (width_from feeds nodes (left_in s.state.node)) (rows_from f v (left_in s.state.node)) (rows_from g w (left_in s.state.node)) (events_from feed event all (left_in s.state.node))
      left_fed = fed (left_in s.state.node) (subst (λ x. IsThere (length feeds) i (left_in x.state.node)) (sym is) (b.placed i s within).left) (λ k e d. b.read i s within k (inl (ap (λ x. left_in x.state.node) (sym is) ∙ e)) d)

      right_fed : Fed (width_from feeds nodes (right_in s.state.node)) (rows_from f v (right_in s.state.node)) (rows_from g w (right_in s.state.node)) (events_from feed event all (right_in s.state.node))
      right_fed = fed (right_in s.state.node) (subst (λ x. IsThere (length feeds) i (right_in x.state.node)) (sym is) (b.placed i s within).right) (λ k e d. b.read i s within k (inr (ap (λ x. right_in x.state.node) (sym is) ∙ e)) d)

      names : NamesIn s.state.node (width_from feeds nodes (left_in s.state.node)) (width_from feeds nodes (right_in s.state.node))
      names = subst (λ x. NamesIn x.state.node (width_from feeds nodes (left_in x.state.node)) (width_from feeds nodes (right_in x.state.node))) (sym is) (b.placed i s within).names

      proper : Proper R (width_from feeds nodes (left_in s.state.node)) (width_from feeds nodes (right_in s.state.node)) (rows_from f v (left_in s.state.node)) (rows_from f v (right_in s.state.node))
      proper = record { lefts = left_fed.ascend; rights = right_fed.ascend; wide_left = left_fed.wide; wide_right = right_fed.wide }

      stood_before : StandsAt R s f v
      stood_before = subst (λ x. StandsAt R x f v) (sym is) (b.stand i s within)

      pub stands_here : StandsAt R t g w
      stands_here =
          subst (λ n. Stands R n t.state.kept (rows_from g w (left_in n)) (rows_from g w (right_in n))) (sym step.same.node)
          (step.stands (width_from feeds nodes (left_in s.state.node)) (width_from feeds nodes (right_in s.state.node))
          (rows_from f v (left_in s.state.node)) (rows_from g w (left_in s.state.node)) (rows_from f v (right_in s.state.node)) (rows_from g w (right_in s.state.node))
          names proper left_fed.events right_fed.events stood_before left_fed.leads right_fed.leads)

      -- how many events the node makes at most
      abbrev most : ℕ
      most = length (events_from feed event all (left_in s.state.node)) * share_left R s.state.node (rows_from f v (right_in s.state.node)) + length (events_from feed event all (right_in s.state.node)) * share_right R s.state.node (rows_from g w (left_in s.state.node))

      made : s.read ≡ true → LeadAll R (wide s.state.node (width_from feeds nodes (left_in s.state.node)) (width_from feeds nodes (right_in s.state.node))) most [] events (value_in R f v s.state.node) (value_in R g w s.state.node)
      made read =
          step.leads read (width_from feeds nodes (left_in s.state.node)) (width_from feeds nodes (right_in s.state.node))
          (rows_from f v (left_in s.state.node)) (rows_from g w (left_in s.state.node)) (rows_from f v (right_in s.state.node)) (rows_from g w (right_in s.state.node))
          names proper left_fed.events right_fed.events stood_before left_fed.leads right_fed.leads

      pub leads_here : s.read ≡ true → Leads R (rows_at v i) events (rows_at w i)
      leads_here read =
          let first : rows_at v i ≡ value_in R f v s.state.node = b.values i s within ∙ ap (λ x. value_in R f v x.state.node) (sym is) in
          let last : rows_at w i ≡ value_in R g w s.state.node = b.values_after i s within ∙ ap (λ x. value_in R g w x.state.node) (sym is) in
          subst (λ x. Leads R x events (rows_at w i)) (sym first) (subst (λ x. Leads R (value_in R f v s.state.node) events x) (sym last) ((made read).leads (value_in R f v s.state.node) refl))

      wide_read : (c : Bool) → s.read ≡ c → AreWide (width_at nodes i) events
      wide_read true e =
          subst (λ n. AreWide n events) (sym (b.widths i s within ∙ ap (λ x. wide x.state.node (width_from feeds nodes (left_in x.state.node)) (width_from feeds nodes (right_in x.state.node))) (sym is))) ((made e).wide (λ x at. absurd at))
      wide_read false e = subst (AreWide (width_at nodes i)) (sym (step.quiet e)) (λ x at. absurd at)

      pub wide_here : AreWide (width_at nodes i) events
      wide_here = wide_read s.read refl

      few_read : (c : Bool) → s.read ≡ c → length events ≤ most
      few_read true e = subst (λ k. length events ≤ k) (zero-add most) (made e).few
      few_read false e = subst (λ es. length es ≤ most) (sym (step.quiet e)) (omega arith)

      pub few_here : length events ≤ most
      few_here = few_read s.read refl

  pub one_more : (old now : List (Held C)) (feed : ℕ) (event : Event C) (i : ℕ) (all : List (List (Event C))) (s t : Held C) (events : List (Event C)) (before steps : ℕ)
      → i < length old → SoFar old feed event i now all → ((d : Held C) → s ≡ get_or now i d) → Stepped R s t (events_from feed event all (left_in s.state.node)) (events_from feed event all (right_in s.state.node)) events before steps
      → SoFar old feed event (i + 1) (slice_set now i t) (all ++ events ∷ [])
  one_more old now feed event i all s t events before steps within so is step = record {
    many = let both = length-append all (events ∷ []) in let many = so.many in omega arith;
    alike = alike_set now old i t so.alike inside (λ d. subst (λ x. SameHeld t x) (is d) step.same);
    untouched = λ j d h. get_or-set_other now i j t d (λ e. absurd (omega arith)) ∙ so.untouched j d (omega arith);
    led = λ feeds nodes f g v w b j h read. ⊎_elim
        (λ here. subst (λ k. Leads R (rows_at v k) (get_or (all ++ events ∷ []) k []) (rows_at w k)) (sym here)
        (subst (λ es. Leads R (rows_at v i) es (rows_at w i)) (sym own) (leads_here old now feed event i all so feeds nodes f g v w b s t events before steps within is_old step (ap (λ x. x.read) is_old ∙ ap (λ k. (get_or old k s).read) (sym here) ∙ read s))))
        (λ other. subst (λ es. Leads R (rows_at v j) es (rows_at w j)) (sym (get_or_append_left all (events ∷ []) [] j (let many = so.many in omega arith))) (so.led feeds nodes f g v w b j (omega arith) read))
        (cases_eq j i);
    wide = λ feeds nodes f g v w b j h. ⊎_elim
        (λ here. subst (λ k. AreWide (width_at nodes k) (get_or (all ++ events ∷ []) k [])) (sym here)
        (subst (AreWide (width_at nodes i)) (sym own) (wide_here old now feed event i all so feeds nodes f g v w b s t events before steps within is_old step)))
        (λ other. subst (AreWide (width_at nodes j)) (sym (get_or_append_left all (events ∷ []) [] j (let many = so.many in omega arith))) (so.wide feeds nodes f g v w b j (omega arith)))
        (cases_eq j i);
    stood = λ feeds nodes f g v w b j d h. ⊎_elim
        (λ here. subst (λ k. StandsAt R (get_or (slice_set now i t) k d) g w) (sym here)
        (subst (λ x. StandsAt R x g w) (sym (get_or-set_same now i t d inside)) (stands_here old now feed event i all so feeds nodes f g v w b s t events before steps within is_old step)))
        (λ other. subst (λ x. StandsAt R x g w) (sym (get_or-set_other now i j t d other)) (so.stood feeds nodes f g v w b j d (omega arith)))
        (cases_eq j i);
  }
    where
      inside : i < length now
      inside = let size = so.alike.size in omega arith

      is_old : s ≡ get_or old i s
      is_old = is s ∙ so.untouched i s (omega arith)

      own : get_or (all ++ events ∷ []) i [] ≡ events
      own = ap (λ k. get_or (all ++ events ∷ []) k []) (sym so.many) ∙ get_or-append_seam all events [] []
