-- The pass of one event over the nodes that its feed reaches: those between them stay as they are.
use Rattle.std.proofs.Common.{◌≡◌, ◌<◌, ◌≤◌, ◌+◌, ◌-◌, ◌==◌, ℕ, zero, suc, ◌⊎◌, inl, inr, ⊎_elim, Bool, true, false, cond, ◌||◌, List, [], ◌∷◌, ◌++◌, refl, ap, sym, ◌∙◌, subst, length, take, drop, get_or, map, zero-add, arith}
use Rattle.std.proofs.lemmas.Bool.{cases_eq, cases_lt, eqb-true, eq-eqb, or_parts, true≢false}
use Rattle.std.specs.Cmp.{both_ways, IsTotalOrder}
use Rattle.std.specs.Prelude.{slice_set}
use Rattle.std.specs.declared.cmp.Ordering.{Ordering}
use Rattle.std.specs.FinMap.{IsAntisymmetric}
use Rattle.std.proofs.lemmas.List.{get_or_append_left, get_or-drop, get_or-take, get_or-set_same, get_or-set_other, length-set, set-get_or, take_more, drop_more, drop_all, drop-drop, length-append, length-map}
use Rattle.std.proofs.Math.Seq.{take-suc-set}
use Rattle.dbn_value.specs.Members.{In}
use Rattle.dbn_value.proofs.MemberLaws.{any_in, in_any}
use Rattle.dbn_nodes.specs.declared.node.Node.{Node}
use Rattle.dbn_nodes.specs.declared.event.Event.{Event}
use Rattle.dbn_network.specs.declared.held.Held.{Held}
use Rattle.dbn_network.specs.declared.input.Input.{Input}
use Rattle.dbn_network.specs.declared.input.Input.TheVariants as input
use Rattle.dbn_network.specs.Inputs.{left_in, right_in}
use Rattle.dbn_network.specs.Passes.{Alike, events_from, Stepped, Costs, Passed}
use Rattle.dbn_network.specs.Holding.{nodes_of}
use Rattle.dbn_network.specs.Walks.{is_reached, reads, longer, marked_from, mark_of, marks, AreWalks}
use Rattle.dbn_network.proofs.RunLaws.{left_start, right_start, stepped}
use Rattle.dbn_network.proofs.ValueLaws.{built_more, built_each, built_length}
use Rattle.dbn_network.proofs.PassLaws.{same_inside, SoFar, start, one_more, end, alike_nodes}
use Rattle.dbn_network.proofs.CostLaws.{Counted, count_start, count_more, count_end}
use Rattle.dbn_network.proofs.HoldLaws.{node_is, count_nodes}
use Rattle.dbn_network.proofs.FeedLaws.{same_at}

-- ---- marks

-- a node that is named as an input comes before
abbrev pub Below : {C : Type 0} → ℕ → Node C → Type 0
Below i n = (k : ℕ) → (left_in n ≡ input.Earlier k) ⊎ (right_in n ≡ input.Earlier k) → k < i

module _ (feed : ℕ) where
  reached_local : (done more : List Bool) (x : Input) → ((k : ℕ) → x ≡ input.Earlier k → k < length done) → is_reached feed (done ++ more) x ≡ is_reached feed done x
  reached_local done more input.Nothing below = refl
  reached_local done more (input.Feed k) below = refl
  reached_local done more (input.Earlier i) below = get_or_append_left done more false i (below i refl)

  mark_local : {C : Type 0} (done more : List Bool) (n : Node C) → Below (length done) n → mark_of feed (done ++ more) n ≡ mark_of feed done n
  mark_local done more n below =
      ap (λ b. b || is_reached feed (done ++ more) (right_in n)) (reached_local done more (left_in n) (λ k e. below k (inl e)))
      ∙ ap (λ b. is_reached feed done (left_in n) || b) (reached_local done more (right_in n) (λ k e. below k (inr e)))

module _ {C : Type 0} (feed : ℕ) where
  pub each_mark : (nodes : List (Node C)) (i : ℕ) (d : Node C) → i < length nodes → Below i (get_or nodes i d) → get_or (marks feed nodes) i false ≡ mark_of feed (marks feed nodes) (get_or nodes i d)
  unfolding marks
  each_mark nodes i d h below =
      ap (λ k. get_or (marks feed nodes) k false) (sym (zero-add i)) ∙ built_each (mark_of feed) Below (mark_local feed) [] nodes i false d h (subst (λ k. Below k (get_or nodes i d)) (sym (zero-add i)) below)

  pub count_marks : (nodes : List (Node C)) → length (marks feed nodes) ≡ length nodes
  unfolding marks
  count_marks nodes = built_length (mark_of feed) [] nodes ∙ zero-add (length nodes)

  marks_more : (nodes : List (Node C)) (n : Node C) → marks feed (nodes ++ n ∷ []) ≡ marks feed nodes ++ mark_of feed (marks feed nodes) n ∷ []
  unfolding marks
  marks_more nodes n = built_more (mark_of feed) [] nodes (n ∷ [])

-- ---- the places of marks

marked_more : (i : ℕ) (bs : List Bool) (b : Bool) → marked_from i (bs ++ b ∷ []) ≡ marked_from i bs ++ cond b ((i + length bs) ∷ []) []
marked_more i [] true = ap (λ k. k ∷ []) (same i)
  where
    same : (k : ℕ) → k ≡ k + 0
    same k = omega arith
marked_more i [] false = refl
marked_more i (true ∷ bs) b = ap (λ xs. i ∷ xs) (marked_more (suc i) bs b ∙ ap (λ k. marked_from (suc i) bs ++ cond b (k ∷ []) []) (same i (length bs)))
  where
    same : (k n : ℕ) → suc k + n ≡ k + suc n
    same k n = omega arith
marked_more i (false ∷ bs) b = marked_more (suc i) bs b ∙ ap (λ k. marked_from (suc i) bs ++ cond b (k ∷ []) []) (same i (length bs))
  where
    same : (k n : ℕ) → suc k + n ≡ k + suc n
    same k n = omega arith

-- what is listed has a mark, and what has a mark is listed
sound : (i : ℕ) (bs : List Bool) (m : ℕ) → In m (marked_from i bs) → (k : ℕ) × (m ≡ i + k) × (k < length bs) × (get_or bs k false ≡ true)
sound i [] m at = absurd at
sound i (true ∷ bs) m at = ⊎_elim
    (λ e. (0, let first : m ≡ i = e in omega arith, omega arith, refl))
    (λ later. let (k, is, within, mark) = sound (suc i) bs m later in (suc k, omega arith, omega arith, mark)) at
sound i (false ∷ bs) m at = let (k, is, within, mark) = sound (suc i) bs m at in (suc k, omega arith, omega arith, mark)

complete : (i : ℕ) (bs : List Bool) (k m : ℕ) → m ≡ i + k → get_or bs k false ≡ true → In m (marked_from i bs)
complete i [] k m is mark = absurd (true≢false (sym mark))
complete i (true ∷ bs) zero m is mark = inl (omega arith)
complete i (true ∷ bs) (suc k) m is mark = inr (complete (suc i) bs k m (omega arith) mark)
complete i (false ∷ bs) zero m is mark = absurd (true≢false (sym mark))
complete i (false ∷ bs) (suc k) m is mark = complete (suc i) bs k m (omega arith) mark

pub in_walk : (bs : List Bool) (m : ℕ) → In m (marked_from 0 bs) → (m < length bs) × (get_or bs m false ≡ true)
in_walk bs m at = let (k, is, within, mark) = sound 0 bs m at in let same : k ≡ m = omega arith in (omega arith, ap (λ j. get_or bs j false) (sym same) ∙ mark)

pub walk_in : (bs : List Bool) (m : ℕ) → get_or bs m false ≡ true → In m (marked_from 0 bs)
walk_in bs m mark = complete 0 bs m m (omega arith) mark

-- the next node of a walk, and those without a mark before it
next : (i : ℕ) (bs : List Bool) (m : ℕ) (rest : List ℕ) → marked_from i bs ≡ m ∷ rest
    → (k : ℕ) × (m ≡ i + k) × (k < length bs) × ((j : ℕ) → j < k → get_or bs j false ≡ false) × (get_or bs k false ≡ true) × (marked_from (suc m) (drop (suc k) bs) ≡ rest)
next i [] m rest e = absurd cc
next i (true ∷ bs) m rest e =
    let first : i ≡ m = cc in
    let last : marked_from (suc i) bs ≡ rest = cc in
    (0, omega arith, omega arith, λ j h. absurd (omega arith), refl, subst (λ n. marked_from (suc n) bs ≡ rest) first last)
next i (false ∷ bs) m rest e =
    let (k, is, within, none, mark, left) = next (suc i) bs m rest e in
    (suc k, omega arith, omega arith, λ j h. before bs k none j h, mark, left)
  where
    before : (cs : List Bool) (k : ℕ) → ((j : ℕ) → j < k → get_or cs j false ≡ false) → (j : ℕ) → j < suc k → get_or (false ∷ cs) j false ≡ false
    before cs k none zero h = refl
    before cs k none (suc j) h = none j (omega arith)

none_left : (i : ℕ) (bs : List Bool) → marked_from i bs ≡ [] → (j : ℕ) → get_or bs j false ≡ false
none_left i [] e j = refl
none_left i (true ∷ bs) e j = absurd cc
none_left i (false ∷ bs) e zero = refl
none_left i (false ∷ bs) e (suc j) = none_left (suc i) bs e j

-- ---- one node more

reads_is : (feed : ℕ) (bs : List Bool) (x : Input) → reads feed (marked_from 0 bs) x ≡ is_reached feed bs x
reads_is feed bs input.Nothing = refl
reads_is feed bs (input.Feed k) = refl
reads_is feed bs (input.Earlier i) = both_ways _ _
    (λ e. let (j, at, is) = any_in (λ j. j == i) (marked_from 0 bs) e in subst (λ n. get_or bs n false ≡ true) (eqb-true j i is) (in_walk bs j at).1)
    (λ mark. in_any (λ j. j == i) i (marked_from 0 bs) (walk_in bs i mark) (eq-eqb i i refl))

pub walk_more : {C : Type 0} (feed : ℕ) (nodes : List (Node C)) (n : Node C) (number : ℕ) (walk : List ℕ) → walk ≡ marked_from 0 (marks feed nodes) → number ≡ length nodes
    → longer feed walk (left_in n) (right_in n) number ≡ marked_from 0 (marks feed (nodes ++ n ∷ []))
walk_more feed nodes n number walk is last =
    ap (λ w. longer feed w (left_in n) (right_in n) number) is
    ∙ ap (λ b. marked_from 0 (marks feed nodes) ++ cond (b || reads feed (marked_from 0 (marks feed nodes)) (right_in n)) (number ∷ []) []) (reads_is feed (marks feed nodes) (left_in n))
    ∙ ap (λ b. marked_from 0 (marks feed nodes) ++ cond (is_reached feed (marks feed nodes) (left_in n) || b) (number ∷ []) []) (reads_is feed (marks feed nodes) (right_in n))
    ∙ ap (λ k. marked_from 0 (marks feed nodes) ++ cond (mark_of feed (marks feed nodes) n) (k ∷ []) []) (let many = count_marks feed nodes in omega arith)
    ∙ sym (marked_more 0 (marks feed nodes) (mark_of feed (marks feed nodes) n))
    ∙ ap (marked_from 0) (sym (marks_more feed nodes n))

-- ---- the pass

module _ {C : Type 0} where
  -- an input that is not reached has no events
  no_events : (feed : ℕ) (event : Event C) (bs : List Bool) (all : List (List (Event C))) (x : Input) → is_reached feed bs x ≡ false → ((k : ℕ) → get_or bs k false ≡ false → get_or all k [] ≡ []) → events_from feed event all x ≡ []
  no_events feed event bs all input.Nothing e quiet = refl
  no_events feed event bs all (input.Feed k) e quiet = ap (λ b. cond b (event ∷ []) []) e
  no_events feed event bs all (input.Earlier i) e quiet = quiet i e

  -- the events of an input are among those of the nodes before
  front_events : (feed : ℕ) (event : Event C) (made : List (List (Event C))) (i : ℕ) (x : Input) → ((k : ℕ) → x ≡ input.Earlier k → k < i) → events_from feed event made x ≡ events_from feed event (take i made) x
  front_events feed event made i input.Nothing below = refl
  front_events feed event made i (input.Feed k) below = refl
  front_events feed event made i (input.Earlier k) below = sym (get_or-take i made k [] (below k refl))

module _ {C : Type 0} (R : C → C → Ordering) (old : List (Held C)) (feed : ℕ) (event : Event C) where
  -- the nodes before i have taken their events, and no node has any that is not reached or that comes later
  pub record Walking (i : ℕ) (now : List (Held C)) (made : List (List (Event C))) (before steps : ℕ) : Type 0 where
    pub so : SoFar R old feed event i now (take i made)
    pub counted : Counted R old feed event i (take i made) before steps
    pub size : length made ≡ length old
    pub quiet : (j : ℕ) → get_or (marks feed (nodes_of old)) j false ≡ false → get_or made j [] ≡ []
    pub later : (j : ℕ) → i ≤ j → get_or made j [] ≡ []

  -- a walk up to the p-th of its nodes
  pub record Walked (walk : List ℕ) (p : ℕ) (now : List (Held C)) (made : List (List (Event C))) (before steps : ℕ) : Type 0 where
    pub at : ℕ
    pub within : at ≤ length old
    pub left : drop p walk ≡ marked_from at (drop at (marks feed (nodes_of old)))
    pub walking : Walking at now made before steps

  -- all nodes before the next one have taken their events
  pub record Found (walk : List ℕ) (p m : ℕ) (now : List (Held C)) (made : List (List (Event C))) (before steps : ℕ) : Type 0 where
    pub within : m < length old
    pub mark : get_or (marks feed (nodes_of old)) m false ≡ true
    pub left : drop (p + 1) walk ≡ marked_from (suc m) (drop (suc m) (marks feed (nodes_of old)))
    pub walking : Walking m now made before steps

module _ {C : Type 0} {R : C → C → Ordering} (o : IsTotalOrder R) (exact : IsAntisymmetric R) (old : List (Held C)) (feed : ℕ) (event : Event C)
    (earlier : (i : ℕ) (d : Held C) → i < length old → Below i (get_or old i d).state.node) where
  abbrev bs : List Bool
  bs = marks feed (nodes_of old)

  mark_at : (i : ℕ) (s : Held C) → i < length old → s ≡ get_or old i s → get_or bs i false ≡ mark_of feed bs s.state.node
  mark_at i s within is =
      let size = count_nodes old in
      each_mark feed (nodes_of old) i s.state.node (omega arith) (subst (Below i) (sym (node_is old i s within)) (earlier i s within)) ∙ ap (mark_of feed bs) (node_is old i s within ∙ ap (λ x. x.state.node) (sym is))

  -- a node without a mark stays as it is
  module _ (i : ℕ) (now : List (Held C)) (made : List (List (Event C))) (before steps : ℕ) (walking : Walking R old feed event i now made before steps) (within : i < length old) (unmarked : get_or bs i false ≡ false) (s : Held C) (is : s ≡ get_or old i s) where
    abbrev all : List (List (Event C))
    all = take i made

    quiet_all : (k : ℕ) → get_or bs k false ≡ false → get_or all k [] ≡ []
    quiet_all k e = ⊎_elim
        (λ below. get_or-take i made k [] below ∙ walking.quiet k e)
        (λ past. past_take i made k past)
        (cases_lt k i)
      where
        past_take : {A : Type 0} (n : ℕ) (xs : List (List A)) (j : ℕ) → n ≤ j → get_or (take n xs) j [] ≡ []
        past_take zero xs j h = refl
        past_take (suc n) [] j h = refl
        past_take (suc n) (x ∷ xs) zero h = absurd (omega arith)
        past_take (suc n) (x ∷ xs) (suc j) h = past_take n xs j (omega arith)

    parts : (is_reached feed bs (left_in s.state.node) ≡ false) × (is_reached feed bs (right_in s.state.node) ≡ false)
    parts = or_parts (is_reached feed bs (left_in s.state.node)) (is_reached feed bs (right_in s.state.node)) (sym (mark_at i s within is) ∙ unmarked)

    no_step : Stepped R s s (events_from feed event all (left_in s.state.node)) (events_from feed event all (right_in s.state.node)) [] steps steps
    no_step =
        subst (λ ls. Stepped R s s ls (events_from feed event all (right_in s.state.node)) [] steps steps) (sym (no_events feed event bs all (left_in s.state.node) parts.0 quiet_all))
        (subst (λ rs. Stepped R s s [] rs [] steps steps) (sym (no_events feed event bs all (right_in s.state.node) parts.1 quiet_all))
        (stepped o exact s s s [] [] [] [] steps steps steps (left_start o exact s [] steps) (right_start o exact s [] steps)))

    is_now : (d : Held C) → s ≡ get_or now i d
    is_now d = is ∙ same_inside old i s d within ∙ sym (walking.so.untouched i d (omega arith))

    longer_front : take (i + 1) made ≡ all ++ [] ∷ []
    longer_front = take_more made i [] (let size = walking.size in omega arith) ∙ ap (λ es. all ++ es ∷ []) (walking.later i (omega arith))

    skip_here : Walking R old feed event (i + 1) now made before steps
    skip_here = record {
      so = subst (SoFar R old feed event (i + 1) now) (sym longer_front)
          (subst (λ xs. SoFar R old feed event (i + 1) xs (all ++ [] ∷ [])) (ap (slice_set now i) (is_now s) ∙ set-get_or now i s)
          (one_more R old now feed event i all s s [] steps steps within walking.so is_now no_step));
      counted = subst (λ xs. Counted R old feed event (i + 1) xs before steps) (sym longer_front)
          (count_more R old now feed event i all s s [] before steps steps within walking.so walking.counted is_now no_step);
      size = walking.size;
      quiet = walking.quiet;
      later = λ j h. walking.later j (omega arith);
    }

  some_state : (states : List (Held C)) (i : ℕ) → i < length states → (s : Held C) × (s ≡ get_or states i s)
  some_state [] i h = absurd (omega arith)
  some_state (x ∷ states) zero h = (x, refl)
  some_state (x ∷ states) (suc i) h = some_state states i (omega arith)

  skip_many : (k i : ℕ) (now : List (Held C)) (made : List (List (Event C))) (before steps m : ℕ) → m ≡ i + k → m ≤ length old → ((j : ℕ) → i ≤ j → j < m → get_or bs j false ≡ false) → Walking R old feed event i now made before steps → Walking R old feed event m now made before steps
  skip_many zero i now made before steps m is within none walking = let same : i ≡ m = omega arith in subst (λ n. Walking R old feed event n now made before steps) same walking
  skip_many (suc k) i now made before steps m is within none walking =
      let (s, at) = some_state old i (omega arith) in
      skip_many k (i + 1) now made before steps m (omega arith) within (λ j h h'. none j (omega arith) h')
      (skip_here i now made before steps walking (omega arith) (none i (omega arith) (omega arith)) s at)

  pub walk_start : (walk : List ℕ) (made : List (List (Event C))) (before : ℕ) → walk ≡ marked_from 0 bs → length made ≡ length old → ((i : ℕ) → get_or made i [] ≡ []) → Walked R old feed event walk 0 old made before before
  walk_start walk made before is size quiet = record {
    at = 0;
    within = omega arith;
    left = is;
    walking = record { so = start R old feed event; counted = count_start R old feed event before; size = size; quiet = λ j e. quiet j; later = λ j h. quiet j };
  }

  pub walk_next : (walk : List ℕ) (p m : ℕ) (now : List (Held C)) (made : List (List (Event C))) (before steps : ℕ) → p < length walk → m ≡ get_or walk p m → Walked R old feed event walk p now made before steps → Found R old feed event walk p m now made before steps
  walk_next walk p m now made before steps inside is walked =
      let here : marked_from walked.at (drop walked.at bs) ≡ m ∷ drop (p + 1) walk = sym walked.left ∙ drop_more walk p m inside ∙ ap (λ x. x ∷ drop (p + 1) walk) (sym is) in
      let (k, sum, short, none, mark, left) = next walked.at (drop walked.at bs) m (drop (p + 1) walk) here in
      let marked : get_or bs m false ≡ true = ap (λ j. get_or bs j false) sum ∙ sym (get_or-drop walked.at bs k false) ∙ mark in
      let inside_bs = below_marks m marked in
      record {
        within = inside_bs;
        mark = marked;
        left = sym left ∙ ap (marked_from (suc m)) (drop-drop (suc k) walked.at bs ∙ ap (λ n. drop n bs) (let same : walked.at + suc k ≡ suc m = omega arith in same));
        walking = skip_many k walked.at now made before steps m sum (omega arith)
            (λ j low high. let (d, e) = apart walked.at j low in ap (λ n. get_or bs n false) e ∙ sym (get_or-drop walked.at bs d false) ∙ none d (omega arith)) walked.walking;
      }
    where
      apart : (a b : ℕ) → a ≤ b → (d : ℕ) × (b ≡ a + d)
      apart a b h = (b - a, omega arith)

      below_marks : (j : ℕ) → get_or (marks feed (nodes_of old)) j false ≡ true → j < length old
      below_marks j e = let count = count_marks feed (nodes_of old) in let size = count_nodes old in let inside = (in_walk (marks feed (nodes_of old)) j (walk_in (marks feed (nodes_of old)) j e)).0 in omega arith

  -- the next node takes its events
  pub walk_step : (walk : List ℕ) (p m : ℕ) (now : List (Held C)) (made : List (List (Event C))) (s t : Held C) (events : List (Event C)) (before middle steps : ℕ) → Found R old feed event walk p m now made before middle → ((d : Held C) → s ≡ get_or now m d)
      → Stepped R s t (events_from feed event made (left_in s.state.node)) (events_from feed event made (right_in s.state.node)) events middle steps → Walked R old feed event walk (p + 1) (slice_set now m t) (slice_set made m events) before steps
  walk_step walk p m now made s t events before middle steps found is step =
      let w = found.walking in
      let within = found.within in
      let is_old : s ≡ get_or old m s = is s ∙ w.so.untouched m s (omega arith) in
      let below : Below m s.state.node = subst (λ x. Below m x.state.node) (sym is_old) (earlier m s within) in
      let near : Stepped R s t (events_from feed event (take m made) (left_in s.state.node)) (events_from feed event (take m made) (right_in s.state.node)) events middle steps =
      subst (λ ls. Stepped R s t ls (events_from feed event (take m made) (right_in s.state.node)) events middle steps) (front_events feed event made m (left_in s.state.node) (λ k e. below k (inl e)))
      (subst (λ rs. Stepped R s t (events_from feed event made (left_in s.state.node)) rs events middle steps) (front_events feed event made m (right_in s.state.node) (λ k e. below k (inr e))) step) in
      let front : take (m + 1) (slice_set made m events) ≡ take m made ++ events ∷ [] = ap (λ n. take n (slice_set made m events)) (one_up m) ∙ take-suc-set made m events (let size = w.size in omega arith) in
      record {
        at = m + 1;
        within = omega arith;
        left = found.left ∙ ap (λ n. marked_from n (drop n bs)) (sym (one_up m));
        walking = record {
          so = subst (SoFar R old feed event (m + 1) (slice_set now m t)) (sym front) (one_more R old now feed event m (take m made) s t events middle steps within w.so is near);
          counted = subst (λ xs. Counted R old feed event (m + 1) xs before steps) (sym front) (count_more R old now feed event m (take m made) s t events before middle steps within w.so w.counted is near);
          size = length-set made m events ∙ w.size;
          quiet = λ j e. get_or-set_other made m j events [] (λ same. true≢false (sym found.mark ∙ ap (λ n. get_or bs n false) (sym same) ∙ e)) ∙ w.quiet j e;
          later = λ j h. get_or-set_other made m j events [] (λ same. absurd (omega arith)) ∙ w.later j (omega arith);
        };
      }
    where
      one_up : (n : ℕ) → n + 1 ≡ suc n
      one_up n = omega arith

  -- the whole walk
  walk_whole : (walk : List ℕ) (p : ℕ) (now : List (Held C)) (made : List (List (Event C))) (before steps : ℕ) → length walk ≤ p → Walked R old feed event walk p now made before steps → Walking R old feed event (length old) now made before steps
  walk_whole walk p now made before steps past walked =
      let none = none_left walked.at (drop walked.at bs) (sym walked.left ∙ drop_all p walk past) in
      let upto = walked.within in
      skip_many (length old - walked.at) walked.at now made before steps (length old) (omega arith) (omega arith)
      (λ j low high. ap (λ n. get_or bs n false) (let same : j ≡ walked.at + (j - walked.at) = omega arith in same) ∙ sym (get_or-drop walked.at bs (j - walked.at) false) ∙ none (j - walked.at)) walked.walking

  pub walk_passed : (walk : List ℕ) (p : ℕ) (now : List (Held C)) (made : List (List (Event C))) (before steps : ℕ) → length walk ≤ p → Walked R old feed event walk p now made before steps → Passed R old now feed event
  walk_passed walk p now made before steps past walked = end R old now feed event (take (length old) made) (length old) refl (walk_whole walk p now made before steps past walked).so

  pub walk_costs : (walk : List ℕ) (p : ℕ) (now : List (Held C)) (made : List (List (Event C))) (before steps : ℕ) → length walk ≤ p → Walked R old feed event walk p now made before steps → Costs R old feed event before steps
  walk_costs walk p now made before steps past walked = count_end R old feed event (length old) (take (length old) made) before steps refl (walk_whole walk p now made before steps past walked).counted

  -- the nodes that have events are those of the walk
  pub walk_quiet : (walk : List ℕ) (p : ℕ) (now : List (Held C)) (made : List (List (Event C))) (before steps : ℕ) → walk ≡ marked_from 0 bs → Walked R old feed event walk p now made before steps → (i : ℕ) → (get_or made i [] ≡ []) ⊎ In i walk
  walk_quiet walk p now made before steps is walked i =
      elim (get_or bs i false) as (λ b. get_or bs i false ≡ b → (get_or made i [] ≡ []) ⊎ In i walk) [
        | true ↦ λ e. inr (subst (In i) (sym is) (walk_in bs i e))
        | false ↦ λ e. inl (walked.walking.quiet i e)
      ] refl

-- ---- events that are let go

module _ {E : Type 0} (walk : List ℕ) (p m : ℕ) (made : List (List E)) (i : ℕ) where
  pub clear_step : p < length walk → m ≡ get_or walk p m → m < length made → (get_or made i [] ≡ []) ⊎ In i (drop p walk) → (get_or (slice_set made m []) i [] ≡ []) ⊎ In i (drop (p + 1) walk)
  clear_step inside is within from = ⊎_elim
      (λ here. inl (ap (λ k. get_or (slice_set made m []) k []) here ∙ get_or-set_same made m [] [] within))
      (λ other. ⊎_elim
      (λ none. inl (get_or-set_other made m i [] [] other ∙ none))
      (λ later. ⊎_elim
      (λ first. absurd (other (first ∙ sym is)))
      (λ rest. inr rest)
      (subst (In i) (drop_more walk p m inside) later))
      from)
      (cases_eq i m)

pub clear_end : {E : Type 0} (walk : List ℕ) (p : ℕ) (made : List (List E)) (i : ℕ) → length walk ≤ p → (get_or made i [] ≡ []) ⊎ In i (drop p walk) → get_or made i [] ≡ []
clear_end walk p made i past from = ⊎_elim (λ none. none) (λ later. absurd (subst (In i) (drop_all p walk past) later)) from

-- ---- what a network keeps of its walks

module _ {C : Type 0} where
  pub walks_within : (feed : ℕ) (states : List (Held C)) (walk : List ℕ) (i : ℕ) → walk ≡ marked_from 0 (marks feed (nodes_of states)) → In i walk → i < length states
  walks_within feed states walk i is at =
      let count = count_marks feed (nodes_of states) in
      let size = count_nodes states in
      let inside = (in_walk (marks feed (nodes_of states)) i (subst (In i) is at)).0 in
      omega arith

  pub walks_after : (count : ℕ) (old new : List (Held C)) (walks : List (List ℕ)) (was made : List (List (Event C))) → AreWalks count old walks was → Alike new old → length made ≡ length old → ((i : ℕ) → get_or made i [] ≡ []) → AreWalks count new walks made
  walks_after count old new walks was made kept alike many quiet = record {
    size = kept.size;
    each = λ k within. kept.each k within ∙ ap (λ ns. marked_from 0 (marks k ns)) (sym (alike_nodes new old alike));
    many = many ∙ sym alike.size;
    quiet = quiet;
  }

  -- the same walks for another count of feeds that is equal
  pub walks_count : (a b : ℕ) (states : List (Held C)) (walks : List (List ℕ)) (made : List (List (Event C))) → a ≡ b → AreWalks a states walks made → AreWalks b states walks made
  walks_count a b states walks made same kept = subst (λ n. AreWalks n states walks made) same kept

  pub walks_by : (count : ℕ) (states : List (Held C)) (walks : List (List ℕ)) (made : List (List (Event C))) → AreWalks count states walks made → AreWalks (length walks) states walks made
  walks_by count states walks made kept = subst (λ n. AreWalks n states walks made) (sym kept.size) kept

  pub walks_more : (count : ℕ) (old new : List (Held C)) (walks longest : List (List ℕ)) (made : List (List (Event C))) (n : Node C) (number : ℕ) → AreWalks count old walks made → nodes_of new ≡ nodes_of old ++ n ∷ [] → number ≡ length old → length longest ≡ length walks
      → ((k : ℕ) → k < length walks → get_or longest k [] ≡ longer k (get_or walks k []) (left_in n) (right_in n) number) → AreWalks count new longest (made ++ [] ∷ [])
  walks_more count old new walks longest made n number kept nodes last size grown = record {
    size = size ∙ kept.size;
    each = λ k within. grown k (let same = kept.size in omega arith) ∙ walk_more k (nodes_of old) n number (get_or walks k []) (kept.each k within) (let many = count_nodes old in omega arith) ∙ ap (λ ns. marked_from 0 (marks k ns)) (sym nodes);
    many = let first = length-append made ([] ∷ []) in let second = kept.many in let third = count_nodes new in let fourth = ap length nodes ∙ length-append (nodes_of old) (n ∷ []) in let fifth = count_nodes old in omega arith;
    quiet = λ i. none_more made i kept.quiet;
  }
    where
      none_more : {E : Type 0} (xs : List (List E)) (i : ℕ) → ((j : ℕ) → get_or xs j [] ≡ []) → get_or (xs ++ [] ∷ []) i [] ≡ []
      none_more [] zero quiet = refl
      none_more [] (suc i) quiet = refl
      none_more (x ∷ xs) zero quiet = quiet 0
      none_more (x ∷ xs) (suc i) quiet = none_more xs i (λ j. quiet (suc j))

  pub no_walks : {A : Type 0} (shapes : List A) → AreWalks {C = C} (length shapes) [] (map (λ shape. []) shapes) []
  unfolding marks
  no_walks shapes = record { size = length-map shapes (λ shape. []); each = λ k within. same_at [] shapes k; many = refl; quiet = λ i. refl }

  pub no_walks_by : {A B : Type 0} (shapes : List A) (tables : List (List B)) (walks : List (List ℕ)) → tables ≡ map (λ shape. []) shapes → walks ≡ map (λ shape. []) shapes → AreWalks {C = C} (length tables) [] walks []
  no_walks_by shapes tables walks tables_are walks_are =
      subst (λ n. AreWalks {C = C} n [] walks []) (sym (ap length tables_are ∙ length-map shapes (λ shape. []))) (subst (λ ws. AreWalks {C = C} (length shapes) [] ws []) (sym walks_are) (no_walks shapes))

-- ---- all walks, one behind the other

pub record Lengthened (old new : List (List ℕ)) (left right : Input) (number done : ℕ) : Type 0 where
  pub size : length new ≡ length old
  pub each : (k : ℕ) → k < done → get_or new k [] ≡ longer k (get_or old k []) left right number
  pub rest : (k : ℕ) → done ≤ k → get_or new k [] ≡ get_or old k []

pub none_lengthened : (old : List (List ℕ)) (left right : Input) (number : ℕ) → Lengthened old old left right number 0
none_lengthened old left right number = record { size = refl; each = λ k h. absurd (omega arith); rest = λ k h. refl }

pub one_lengthened : (old now : List (List ℕ)) (left right : Input) (number done : ℕ) → done < length old → Lengthened old now left right number done → Lengthened old (slice_set now done (longer done (get_or now done []) left right number)) left right number (done + 1)
one_lengthened old now left right number done within so = record {
  size = length-set now done (longer done (get_or now done []) left right number) ∙ so.size;
  each = λ k h. ⊎_elim
      (λ here. subst (λ j. get_or (slice_set now done (longer done (get_or now done []) left right number)) j [] ≡ longer j (get_or old j []) left right number) (sym here)
      (get_or-set_same now done (longer done (get_or now done []) left right number) [] (let size = so.size in omega arith) ∙ ap (λ w. longer done w left right number) (so.rest done (omega arith))))
      (λ other. get_or-set_other now done k (longer done (get_or now done []) left right number) [] other ∙ so.each k (omega arith))
      (cases_eq k done);
  rest = λ k h. get_or-set_other now done k (longer done (get_or now done []) left right number) [] (λ same. absurd (omega arith)) ∙ so.rest k (omega arith);
}
