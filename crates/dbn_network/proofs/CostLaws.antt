-- How many steps a pass takes at most.
use Rattle.std.proofs.Common.{◌≡◌, ◌<◌, ◌≤◌, ◌+◌, ◌*◌, ◌==◌, ℕ, suc, ⊎_elim, Bool, true, false, cond, List, [], ◌∷◌, ◌++◌, refl, sym, ap, ◌∙◌, subst, length, take, get_or, max, zero-add, add-zero, le_trans, arith}
use Rattle.std.proofs.Math.Nat.{le-max_right}
use Rattle.std.proofs.lemmas.Bool.{cases_eq}
use Rattle.std.specs.declared.cmp.Ordering.{Ordering}
use Rattle.std.specs.List.{sum_by}
use Rattle.std.proofs.lemmas.List.{get_or_append_left}
use Rattle.std.proofs.lemmas.List.Sums.{sum_by-append, sum_by-cons}
use Rattle.std.proofs.Math.Seq.{get_or-append_seam}
use Rattle.dbn_value.proofs.ListLaws.{take_more}
use Rattle.dbn_nodes.specs.declared.node.Node.{Node}
use Rattle.dbn_nodes.specs.declared.event.Event.{Event}
use Rattle.dbn_network.specs.declared.held.Held.{Held}
use Rattle.dbn_network.specs.declared.input.Input.{Input}
use Rattle.dbn_network.specs.declared.input.Input.TheVariants as input
use Rattle.dbn_network.specs.Inputs.{left_in, right_in}
use Rattle.dbn_network.specs.Values.{rows_from}
use Rattle.dbn_network.specs.States.{IsThere}
use Rattle.dbn_network.specs.Loads.{load_from, named_load, all_loads, load_of, load_in, loads_of}
use Rattle.dbn_network.specs.Passes.{events_from, Stepped, Before, Costs}
use Rattle.dbn_network.specs.Holding.{nodes_of}
use Rattle.dbn_network.proofs.LoadLaws.{within_load, within_steps}
use Rattle.dbn_network.proofs.RunLaws.{take_whole}
use Rattle.dbn_network.proofs.PassLaws.{SoFar, few_here, same_inside}
use Rattle.dbn_network.proofs.ValueLaws.{IsEarly, built_each, built_length}
use Rattle.dbn_network.proofs.HoldLaws.{node_at, count_nodes}

-- ---- the load of each node

load_local_from : (feed : ℕ) (feeds done more : List ℕ) (x : Input) → IsThere (length feeds) (length done) x → load_from feed (done ++ more) x ≡ load_from feed done x
load_local_from feed feeds done more input.Nothing there = refl
load_local_from feed feeds done more (input.Feed k) there = refl
load_local_from feed feeds done more (input.Earlier i) there = get_or_append_left done more 0 i there

module _ {C : Type 0} (R : C → C → Ordering) (feed : ℕ) (v w : List (List (List C))) (feeds : List ℕ) where
  load_local : (done more : List ℕ) (n : Node C) → IsEarly feeds (length done) n → load_in R feed v w (done ++ more) n ≡ load_in R feed v w done n
  load_local done more n early =
      ap (λ l. load_of R n l (load_from feed (done ++ more) (right_in n)) (rows_from [] v (right_in n)) (rows_from [] w (left_in n))) (load_local_from feed feeds done more (left_in n) early.0)
      ∙ ap (λ r. load_of R n (load_from feed done (left_in n)) r (rows_from [] v (right_in n)) (rows_from [] w (left_in n))) (load_local_from feed feeds done more (right_in n) early.1)

  -- each node has the load that its inputs give it
  pub each_load : (nodes : List (Node C)) (i : ℕ) (d : Node C) → i < length nodes → IsEarly feeds i (get_or nodes i d) → get_or (loads_of R feed v w nodes) i 0 ≡ load_in R feed v w (loads_of R feed v w nodes) (get_or nodes i d)
  unfolding loads_of
  each_load nodes i d h early =
      ap (λ k. get_or (loads_of R feed v w nodes) k 0) (sym (zero-add i)) ∙ built_each (load_in R feed v w) (IsEarly feeds) load_local [] nodes i 0 d h (subst (λ k. IsEarly feeds k (get_or nodes i d)) (sym (zero-add i)) early)

module _ {C : Type 0} (R : C → C → Ordering) (feed : ℕ) (v w : List (List (List C))) where
  pub count_loads : (nodes : List (Node C)) → length (loads_of R feed v w nodes) ≡ length nodes
  unfolding loads_of
  count_loads nodes = built_length (load_in R feed v w) [] nodes ∙ zero-add (length nodes)

-- ---- the loads of a front

module _ {C : Type 0} where
  -- the loads of the first nodes alone
  abbrev front_loads : List (Node C) → List ℕ → ℕ → ℕ
  front_loads nodes loads i = sum_by (λ n. named_load loads (left_in n) + named_load loads (right_in n)) (take i nodes) + sum_by (λ load. load) (take i loads)

  front_more : (nodes : List (Node C)) (loads : List ℕ) (i : ℕ) (n : Node C) (own : ℕ) → i < length nodes → i < length loads → n ≡ get_or nodes i n → own ≡ get_or loads i own
      → front_loads nodes loads (i + 1) ≡ front_loads nodes loads i + (named_load loads (left_in n) + named_load loads (right_in n) + own)
  front_more nodes loads i n own in_nodes in_loads is_node is_own =
      let named : sum_by (λ m. named_load loads (left_in m) + named_load loads (right_in m)) (take (i + 1) nodes) ≡ sum_by (λ m. named_load loads (left_in m) + named_load loads (right_in m)) (take i nodes) + (named_load loads (left_in n) + named_load loads (right_in n)) =
      ap (sum_by (λ m. named_load loads (left_in m) + named_load loads (right_in m))) (take_more nodes i n in_nodes is_node) ∙ last (λ m. named_load loads (left_in m) + named_load loads (right_in m)) (take i nodes) n in
      let owns : sum_by (λ load. load) (take (i + 1) loads) ≡ sum_by (λ load. load) (take i loads) + own =
      ap (sum_by (λ load. load)) (take_more loads i own in_loads is_own) ∙ last (λ load. load) (take i loads) own in
      summed _ _ _ _ _ _ named owns
    where
      last : {X : Type 0} (t : X → ℕ) (xs : List X) (x : X) → sum_by t (xs ++ x ∷ []) ≡ sum_by t xs + t x
      last t xs x = sum_by-append t xs (x ∷ []) ∙ ap (λ k. sum_by t xs + k) (sum_by-cons t x [] ∙ add-zero (t x))

      summed : (a b c d e f : ℕ) → a ≡ b + c → d ≡ e + f → a + d ≡ b + e + (c + f)
      summed a b c d e f x y = omega arith

  front_whole : (nodes : List (Node C)) (loads : List ℕ) (i : ℕ) → length nodes ≤ i → length loads ≤ i → front_loads nodes loads i ≡ all_loads nodes loads
  front_whole nodes loads i x y =
      ap (λ ns. sum_by (λ n. named_load loads (left_in n) + named_load loads (right_in n)) ns + sum_by (λ load. load) (take i loads)) (take_whole nodes i x)
      ∙ ap (λ ls. sum_by (λ n. named_load loads (left_in n) + named_load loads (right_in n)) nodes + sum_by (λ load. load) ls) (take_whole loads i y)

-- ---- the pass

module _ {C : Type 0} (R : C → C → Ordering) where
  -- how many events there are so far, and how many steps were taken
  pub record Counted (old : List (Held C)) (feed : ℕ) (event : Event C) (i : ℕ) (all : List (List (Event C))) (before steps : ℕ) : Type 0 where
    pub few : (feeds nodes : List ℕ) (f g v w : List (List (List C))) → Before R old feed event feeds nodes f g v w → (j : ℕ) → j < i → length (get_or all j []) ≤ get_or (loads_of R feed v w (nodes_of old)) j 0
    pub cost : (feeds nodes : List ℕ) (f g v w : List (List (List C))) → Before R old feed event feeds nodes f g v w → steps ≤ before + 8 * front_loads (nodes_of old) (loads_of R feed v w (nodes_of old)) i

  pub count_start : (old : List (Held C)) (feed : ℕ) (event : Event C) (before : ℕ) → Counted old feed event 0 [] before before
  count_start old feed event before = record {
    few = λ feeds nodes f g v w b j h. absurd (omega arith);
    cost = λ feeds nodes f g v w b. omega arith;
  }

  pub count_end : (old : List (Held C)) (feed : ℕ) (event : Event C) (i : ℕ) (all : List (List (Event C))) (before steps : ℕ) → i ≡ length old → Counted old feed event i all before steps → Costs R old feed event before steps
  count_end old feed event i all before steps e counted feeds nodes f g v w b =
      let many = count_nodes old in
      let loads = count_loads R feed v w (nodes_of old) in
      subst (λ k. steps ≤ before + 8 * k) (front_whole (nodes_of old) (loads_of R feed v w (nodes_of old)) i (omega arith) (omega arith)) (counted.cost feeds nodes f g v w b)

  at_feed_few : (b : Bool) (e : Event C) → length (cond b (e ∷ []) []) ≤ cond b 1 0
  at_feed_few true e = omega arith
  at_feed_few false e = omega arith

  module _ (old now : List (Held C)) (feed : ℕ) (event : Event C) (i : ℕ) (all : List (List (Event C))) (s t : Held C) (events : List (Event C)) (before middle steps : ℕ) (within : i < length old) (so : SoFar R old feed event i now all) (counted : Counted old feed event i all before middle)
      (is : (d : Held C) → s ≡ get_or now i d) (step : Stepped R s t (events_from feed event all (left_in s.state.node)) (events_from feed event all (right_in s.state.node)) events middle steps) where
    is_old : s ≡ get_or old i s
    is_old = is s ∙ so.untouched i s (omega arith)

    here : (m : Node C) → get_or (nodes_of old) i m ≡ s.state.node
    here m =
        let many = count_nodes old in
        let (x, at, e) = node_at old i m (omega arith) in
        e ∙ ap (λ y. y.state.node) (at ∙ same_inside old i x s within ∙ sym is_old)

    module _ (feeds nodes : List ℕ) (f g v w : List (List (List C))) (b : Before R old feed event feeds nodes f g v w) where
      abbrev loads : List ℕ
      loads = loads_of R feed v w (nodes_of old)

      input_few : (x : Input) → IsThere (length feeds) i x → length (events_from feed event all x) ≤ load_from feed loads x
      input_few input.Nothing there = omega arith
      input_few (input.Feed k) there = at_feed_few (k == feed) event
      input_few (input.Earlier k) there = counted.few feeds nodes f g v w b k there

      early : IsEarly feeds i s.state.node
      early = let fits = b.placed i s within in subst (λ x. IsEarly feeds i x.state.node) (sym is_old) (fits.left, fits.right)

      own_load : get_or loads i 0 ≡ load_in R feed v w loads s.state.node
      own_load =
          let many = count_nodes old in
          each_load R feed v w feeds (nodes_of old) i s.state.node (omega arith) (subst (IsEarly feeds i) (sym (here s.state.node)) early) ∙ ap (load_in R feed v w loads) (here s.state.node)

      few_now : length events ≤ load_in R feed v w loads s.state.node
      few_now = le_trans (few_here R old now feed event i all so feeds nodes f g v w b s t events middle steps within is_old step)
          (within_load R feed f g v w loads s.state.node (length (events_from feed event all (left_in s.state.node))) (length (events_from feed event all (right_in s.state.node))) (input_few (left_in s.state.node) early.0) (input_few (right_in s.state.node) early.1))

      few_next : (j : ℕ) → j < i + 1 → length (get_or (all ++ events ∷ []) j []) ≤ get_or loads j 0
      few_next j h = ⊎_elim
          (λ at. subst (λ k. length (get_or (all ++ events ∷ []) k []) ≤ get_or loads k 0) (sym at)
          (subst (λ es. length es ≤ get_or loads i 0) (sym (ap (λ k. get_or (all ++ events ∷ []) k []) (sym so.many) ∙ get_or-append_seam all events [] [])) (subst (λ k. length events ≤ k) (sym own_load) few_now)))
          (λ other. subst (λ es. length es ≤ get_or loads j 0) (sym (get_or_append_left all (events ∷ []) [] j (let many = so.many in omega arith))) (counted.few feeds nodes f g v w b j (omega arith)))
          (cases_eq j i)

      cost_next : steps ≤ before + 8 * front_loads (nodes_of old) loads (i + 1)
      cost_next =
          let many = count_nodes old in
          let size = count_loads R feed v w (nodes_of old) in
          subst (λ k. steps ≤ before + 8 * k)
          (sym (front_more (nodes_of old) loads i s.state.node (load_in R feed v w loads s.state.node) (omega arith) (omega arith) (sym (here s.state.node)) (sym own_load ∙ same_inside loads i 0 _ (omega arith))))
          (summed before middle steps (length (events_from feed event all (left_in s.state.node)) + length (events_from feed event all (right_in s.state.node))) (length events) (front_loads (nodes_of old) loads i)
          (named_load loads (left_in s.state.node) + named_load loads (right_in s.state.node) + load_in R feed v w loads s.state.node) (counted.cost feeds nodes f g v w b) step.cost
          (within_steps R feed f g v w loads s.state.node (length (events_from feed event all (left_in s.state.node))) (length (events_from feed event all (right_in s.state.node))) (length events) (input_few (left_in s.state.node) early.0) (input_few (right_in s.state.node) early.1) few_now))
        where
          summed : (a b c ins out front more : ℕ) → b ≤ a + 8 * front → c ≤ b + 4 * ins + 2 * out → 4 * ins + 2 * out ≤ 8 * more → c ≤ a + 8 * (front + more)
          summed a b c ins out front more x y z = omega arith

    pub count_more : Counted old feed event (i + 1) (all ++ events ∷ []) before steps
    count_more = record { few = few_next; cost = cost_next }

-- ---- the bound

-- the one step in the feed's table is one of the eight of a node, and the only one where there are no nodes
pub within_bound : {C : Type 0} (nodes : List (Node C)) (loads : List ℕ) → length loads ≡ length nodes → 1 + 8 * all_loads nodes loads ≤ max 1 (8 * (length nodes + all_loads nodes loads))
within_bound [] [] size = omega arith
within_bound [] (load ∷ loads) size = absurd (omega arith)
within_bound (n ∷ nodes) loads size = le_trans (summed (length nodes) (all_loads (n ∷ nodes) loads)) (le-max_right 1 (8 * (length (n ∷ nodes) + all_loads (n ∷ nodes) loads)))
  where
    summed : (a b : ℕ) → 1 + 8 * b ≤ 8 * (suc a + b)
    summed a b = omega arith
