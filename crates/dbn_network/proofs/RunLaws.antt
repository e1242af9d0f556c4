-- Events that run through one node.
use Rattle.std.proofs.Common.{◌≡◌, ◌<◌, ◌≤◌, ◌+◌, ◌*◌, ◌==◌, inl, inr, ⊎_elim, ℕ, zero, suc, true, false, cond, not, List, [], ◌∷◌, ◌++◌, refl, sym, ap, ◌∙◌, subst, Some, length, take, get_or, arith}
use Rattle.std.specs.Prelude.{slice_get}
use Rattle.std.specs.declared.cmp.Ordering.{Ordering}
use Rattle.std.specs.Cmp.{IsTotalOrder}
use Rattle.std.specs.Cmp.Lexicographic.{slice_cmp, lists_total}
use Rattle.std.specs.FinMap.{IsAntisymmetric}
use Rattle.std.specs.BTreeMap.{is_at}
use Rattle.std.specs.BTreeSet.{insert_key}
use Rattle.std.specs.Set.{remove_key}
use Rattle.std.specs.List.{list_all}
use Rattle.std.specs.List.Sorted.{IsStrictlySortedBy}
use Rattle.std.proofs.lemmas.List.{length-append}
use Rattle.std.proofs.Math.Nat.{le-add_right}
use Rattle.std.proofs.lemmas.Option.{slice_get_cases}
use Rattle.dbn_value.specs.Members.{In}
use Rattle.dbn_value.specs.Picked.{picked}
use Rattle.dbn_value.proofs.ListLaws.{take_more}
use Rattle.dbn_value.proofs.MemberLaws.{in_filter, in_append, append_left}
use Rattle.dbn_value.proofs.AscendingLaws.{sorted_insert_key, sorted_remove_key, in_insert_key, in_remove_key, in_ascending, in_images}
use Rattle.dbn_nodes.specs.declared.node.Node.{Node}
use Rattle.dbn_nodes.specs.declared.node.Node.TheVariants as node
use Rattle.dbn_nodes.specs.declared.node.Added.{Added}
use Rattle.dbn_nodes.specs.declared.node.Added.TheVariants as added
use Rattle.dbn_nodes.specs.declared.event.Event.{Event}
use Rattle.dbn_nodes.specs.declared.event.Event.TheVariants as event
use Rattle.dbn_nodes.specs.declared.state.Kept.{Kept}
use Rattle.dbn_nodes.specs.Tables.{has}
use Rattle.dbn_nodes.specs.Changes.{row_in, Leads}
use Rattle.dbn_nodes.specs.Values.{passes, added_cells, value_of}
use Rattle.dbn_nodes.specs.Stands.{Suits, Stands, Good, FollowsLeft, FollowsRight, LeadsLeft, LeadsRight, most_left, most_right}
use Rattle.dbn_nodes.proofs.ChangeLaws.{rows_exact}
use Rattle.dbn_nodes.proofs.ValueLaws.{in_joined}
use Rattle.dbn_network.specs.States.{wide, NamesIn, AddedIn}
use Rattle.dbn_network.specs.declared.held.Held.{Held}
use Rattle.dbn_network.specs.declared.input.Input.{Input}
use Rattle.dbn_network.specs.Inputs.{left_in, right_in}
use Rattle.dbn_network.specs.Loads.{share_left, share_right}
use Rattle.dbn_network.proofs.LoadLaws.{share_left_most, share_right_most, few_more, few_both}
use Rattle.dbn_network.specs.Passes.{SameHeld, at_feed, events_from, RunsLeft, RunsRight, Stepped, IsWide, AreWide, Proper, LeadAll, FollowsLefts, FollowsRights, LeadsLefts, LeadsRights, FollowsBoth, LeadsBoth}

module _ {C : Type 0} where
  there : (xs : List C) (i : ℕ) → i < length xs → (x : C) × (slice_get xs i ≡ Some x)
  there xs i h = ⊎_elim (λ found. (found.0, found.2)) (λ none. let past = none.0 in absurd (omega arith)) (slice_get_cases xs i).1

  -- a picked row has one cell for each column, where all of them are there
  pub picked_length : (cols : List ℕ) (row : List C) → ((col : ℕ) → In col cols → col < length row) → length (picked cols row) ≡ length cols
  picked_length [] row within = refl
  picked_length (col ∷ cols) row within =
      let first = there row col (within col (inl refl)) in
      let rest = picked_length cols row (λ c at. within c (inr at)) in
      rw first.1 (ap suc rest)

  last_length : (with : Added C) (row : List C) → AddedIn (length row) with → length (added_cells with row) ≡ 1
  last_length (added.Copied col) row within = picked_length (col ∷ []) row (λ c at. ⊎_elim (λ e. subst (λ (n : ℕ). n < length row) (sym e) within) (λ none. absurd none) at)
  last_length (added.Constant cell) row within = refl

  suits_of : (n : Node C) (l r : ℕ) (s t : List (List C)) → NamesIn n l r → IsWide l s → IsWide r t → Suits n s t
  suits_of node.Unit l r s t names ws wt = tt
  suits_of (node.Scan feed) l r s t names ws wt = tt
  suits_of (node.Select from tests) l r s t names ws wt = tt
  suits_of (node.Join left right on) l r s t names ws wt = (
    λ a b at bt. ws a at ∙ sym (ws b bt),
    λ a b at bt p pt. let both = names p pt in let first = ws a at in let second = wt b bt in (omega arith, omega arith),
  )
  suits_of (node.Diff left right) l r s t names ws wt = tt
  suits_of (node.Project from cols) l r s t names ws wt = tt
  suits_of (node.Union left right) l r s t names ws wt = tt
  suits_of (node.Extend from with) l r s t names ws wt = λ a b at bt. ws a at ∙ sym (ws b bt)

module _ {C : Type 0} (R : C → C → Ordering) where
  -- what one more event does
  pub record LeftOne (now new : Held C) (e : Event C) (mid out : List (Event C)) (before steps : ℕ) : Type 0 where
    pub same : SameHeld new now
    pub stands : FollowsLeft R now.state.node now.state.kept new.state.kept e
    pub leads : now.read ≡ true → LeadsLeft R now.state.node now.state.kept e mid out
    pub quiet : now.read ≡ false → out ≡ mid
    pub cost : steps + 2 * length mid ≤ before + 4 + 2 * length out

  -- what one more event does
  pub record RightOne (now new : Held C) (e : Event C) (mid out : List (Event C)) (before steps : ℕ) : Type 0 where
    pub same : SameHeld new now
    pub stands : FollowsRight R now.state.node now.state.kept new.state.kept e
    pub leads : now.read ≡ true → LeadsRight R now.state.node now.state.kept e mid out
    pub quiet : now.read ≡ false → out ≡ mid
    pub cost : steps + 2 * length mid ≤ before + 4 + 2 * length out

module _ {C : Type 0} {R : C → C → Ordering} (o : IsTotalOrder R) (exact : IsAntisymmetric R) where
  -- the rows of a node have its width
  pub value_wide : (n : Node C) (l r : ℕ) (s t : List (List C)) → NamesIn n l r → IsWide l s → IsWide r t → IsWide (wide n l r) (value_of R n s t)
  value_wide node.Unit l r s t names ws wt row at = ⊎_elim (λ e. ap length e) (λ none. absurd none) at
  value_wide (node.Scan feed) l r s t names ws wt row at = ws row at
  value_wide (node.Select from tests) l r s t names ws wt row at = ws row (in_filter (λ x. list_all (passes R x) tests) row s at).0
  value_wide (node.Join left right on) l r s t names ws wt row at =
      let (a, b, at_left, at_right, meets, is) = in_joined o exact on s t row at in
      let size : length row ≡ length a + length b = ap length is ∙ length-append a b in
      let first = ws a at_left in
      let second = wt b at_right in
      omega arith
  value_wide (node.Diff left right) l r s t names ws wt row at = ws row (in_filter (λ x. not (has (slice_cmp R) t x)) row s at).0
  value_wide (node.Project from cols) l r s t names ws wt row at =
      let image = in_images (lists_total o) (rows_exact o exact) (picked cols) row s at in
      ap length image.2 ∙ picked_length cols image.0 (λ col ct. let within = names col ct in let size = ws image.0 image.1 in omega arith)
  value_wide (node.Union left right) l r s t names ws wt row at =
      ⊎_elim (λ old. ws row old) (λ other. wt row other ∙ sym names) (in_append row s t (in_ascending (slice_cmp R) row (s ++ t) at))
  value_wide (node.Extend from with) l r s t names ws wt row at =
      let image = in_images (lists_total o) (rows_exact o exact) (λ x. x ++ added_cells with x) row s at in
      let size : length row ≡ length image.0 + length (added_cells with image.0) = ap length image.2 ∙ length-append image.0 (added_cells with image.0) in
      let first = ws image.0 image.1 in
      let last = last_length with image.0 (subst (λ w. AddedIn w with) (sym first) names) in
      omega arith

  -- ---- where events lead, rows ascend and keep their width

  pub leads_ascend : (es : List (Event C)) (s t : List (List C)) → IsStrictlySortedBy (slice_cmp R) s → Leads R s es t → IsStrictlySortedBy (slice_cmp R) t
  leads_ascend [] s t ss l = subst (IsStrictlySortedBy (slice_cmp R)) l ss
  leads_ascend (event.Plus row ∷ es) s t ss l = leads_ascend es (insert_key (slice_cmp R) s row) t (sorted_insert_key (lists_total o) row s ss) l.1
  leads_ascend (event.Minus row ∷ es) s t ss l = leads_ascend es (remove_key (is_at (slice_cmp R row)) s) t (sorted_remove_key (lists_total o) row s ss) l.1

  pub leads_wide : (w : ℕ) (es : List (Event C)) (s t : List (List C)) → IsStrictlySortedBy (slice_cmp R) s → IsWide w s → AreWide w es → Leads R s es t → IsWide w t
  leads_wide w [] s t ss ws we l = subst (IsWide w) l ws
  leads_wide w (event.Plus row ∷ es) s t ss ws we l =
      leads_wide w es (insert_key (slice_cmp R) s row) t (sorted_insert_key (lists_total o) row s ss)
      (λ q at. ⊎_elim (λ e. ap length e ∙ we (event.Plus row) (inl refl)) (λ old. ws q old) (in_insert_key (slice_cmp R) row q s at)) (λ e at. we e (inr at)) l.1
  leads_wide w (event.Minus row ∷ es) s t ss ws we l =
      leads_wide w es (remove_key (is_at (slice_cmp R row)) s) t (sorted_remove_key (lists_total o) row s ss)
      (λ q at. ws q (in_remove_key (lists_total o) row q s ss at).0) (λ e at. we e (inr at)) l.1

  -- events lead through the rows between them
  pub leads_split : (es fs : List (Event C)) (s u : List (List C)) → Leads R s (es ++ fs) u → (m : List (List C)) × Leads R s es m × Leads R m fs u
  leads_split [] fs s u l = (s, refl, l)
  leads_split (event.Plus row ∷ es) fs s u l = let (m, first, last) = leads_split es fs (insert_key (slice_cmp R) s row) u l.1 in (m, (l.0, first), last)
  leads_split (event.Minus row ∷ es) fs s u l = let (m, first, last) = leads_split es fs (remove_key (is_at (slice_cmp R row)) s) u l.1 in (m, (l.0, first), last)

  pub proper_left : (es : List (Event C)) (l r : ℕ) (s z t : List (List C)) → Proper R l r s t → AreWide l es → Leads R s es z → Proper R l r z t
  proper_left es l r s z t p we led = record {
    lefts = leads_ascend es s z p.lefts led;
    rights = p.rights;
    wide_left = leads_wide l es s z p.lefts p.wide_left we led;
    wide_right = p.wide_right;
  }

  pub proper_right : (es : List (Event C)) (l r : ℕ) (s t u : List (List C)) → Proper R l r s t → AreWide r es → Leads R t es u → Proper R l r s u
  proper_right es l r s t u p we led = record {
    lefts = p.lefts;
    rights = leads_ascend es t u p.rights led;
    wide_left = p.wide_left;
    wide_right = leads_wide r es t u p.rights p.wide_right we led;
  }

  pub good_of : (n : Node C) (l r : ℕ) (s t : List (List C)) → NamesIn n l r → Proper R l r s t → Good R n s t
  good_of n l r s t names p = record { lefts = p.lefts; rights = p.rights; suits = suits_of n l r s t names p.wide_left p.wide_right }

  -- ---- one event more

  pub follows_left_more : (n : Node C) (old now new : Kept C) (pre : List (Event C)) (e : Event C) → FollowsLefts R n old now pre → FollowsLeft R n now new e → FollowsLefts R n old new (pre ++ e ∷ [])
  follows_left_more n old now new pre e all one l r s z t names p we st led =
      let (m, first, last) = leads_split pre (e ∷ []) s z led in
      let before : AreWide l pre = λ x at. we x (append_left x pre (e ∷ []) at) in
      one m z t (good_of n l r m t names (proper_left pre l r s m t p before first)) (good_of n l r z t names (proper_left (pre ++ e ∷ []) l r s z t p we led)) (all l r s m t names p before st first) last

  pub leads_left_more : (n : Node C) (old now : Kept C) (pre : List (Event C)) (e : Event C) (was mid out : List (Event C)) → FollowsLefts R n old now pre → LeadsLefts R n old pre was mid → LeadsLeft R n now e mid out
      → LeadsLefts R n old (pre ++ e ∷ []) was out
  leads_left_more n old now pre e was mid out all first one l r s z t names p we st led =
      let (m, front, last) = leads_split pre (e ∷ []) s z led in
      let before : AreWide l pre = λ x at. we x (append_left x pre (e ∷ []) at) in
      let pm : Proper R l r m t = proper_left pre l r s m t p before front in
      let pz : Proper R l r z t = proper_left (pre ++ e ∷ []) l r s z t p we led in
      let done = first l r s m t names p before st front in
      let more = one m z t (good_of n l r m t names pm) (good_of n l r z t names pz) (all l r s m t names p before st front) last in
      record {
        leads = λ b start. more.leads b (done.leads b start);
        few = few_more pre e (length was) (length mid) (length out) (share_left R n t) (most_left R n (row_in e) t) done.few more.few (share_left_most o exact n (row_in e) t);
        wide = λ w x at. ⊎_elim (λ old_one. done.wide w x old_one)
            (λ new. ⊎_elim (λ in_m. value_wide n l r m t names pm.wide_left pm.wide_right (row_in x) in_m) (λ in_z. value_wide n l r z t names pz.wide_left pz.wide_right (row_in x) in_z) new) (more.rows x at);
      }

  pub follows_right_more : (n : Node C) (old now new : Kept C) (pre : List (Event C)) (e : Event C) → FollowsRights R n old now pre → FollowsRight R n now new e → FollowsRights R n old new (pre ++ e ∷ [])
  follows_right_more n old now new pre e all one l r s t u names p we st led =
      let (m, first, last) = leads_split pre (e ∷ []) t u led in
      let before : AreWide r pre = λ x at. we x (append_left x pre (e ∷ []) at) in
      one s m u (good_of n l r s m names (proper_right pre l r s t m p before first)) (good_of n l r s u names (proper_right (pre ++ e ∷ []) l r s t u p we led)) (all l r s t m names p before st first) last

  pub leads_right_more : (n : Node C) (old now : Kept C) (pre : List (Event C)) (e : Event C) (was mid out : List (Event C)) → FollowsRights R n old now pre → LeadsRights R n old pre was mid → LeadsRight R n now e mid out
      → LeadsRights R n old (pre ++ e ∷ []) was out
  leads_right_more n old now pre e was mid out all first one l r s t u names p we st led =
      let (m, front, last) = leads_split pre (e ∷ []) t u led in
      let before : AreWide r pre = λ x at. we x (append_left x pre (e ∷ []) at) in
      let pm : Proper R l r s m = proper_right pre l r s t m p before front in
      let pu : Proper R l r s u = proper_right (pre ++ e ∷ []) l r s t u p we led in
      let done = first l r s t m names p before st front in
      let more = one s m u (good_of n l r s m names pm) (good_of n l r s u names pu) (all l r s t m names p before st front) last in
      record {
        leads = λ b start. more.leads b (done.leads b start);
        few = few_more pre e (length was) (length mid) (length out) (share_right R n s) (most_right R n (row_in e) s) done.few more.few (share_right_most o exact n (row_in e) s);
        wide = λ w x at. ⊎_elim (λ old_one. done.wide w x old_one)
            (λ new. ⊎_elim (λ in_m. value_wide n l r s m names pm.wide_left pm.wide_right (row_in x) in_m) (λ in_u. value_wide n l r s u names pu.wide_left pu.wide_right (row_in x) in_u) new) (more.rows x at);
      }

  -- ---- no event, and one event

  pub stay : (width most : ℕ) (was : List (Event C)) (v w : List (List C)) → v ≡ w → LeadAll R width most was was v w
  stay width most was v w e = record { leads = λ b start. subst (λ x. Leads R b was x) e start; wide = λ x. x; few = le-add_right (length was) most }

  pub follows_left_none : (n : Node C) (old : Kept C) → FollowsLefts R n old old []
  follows_left_none n old l r s z t names p we st led = subst (λ x. Stands R n old x t) led st

  pub leads_left_none : (n : Node C) (old : Kept C) (was : List (Event C)) → LeadsLefts R n old [] was was
  leads_left_none n old was l r s z t names p we st led = stay (wide n l r) (0 * share_left R n t) was (value_of R n s t) (value_of R n z t) (ap (λ x. value_of R n x t) led)

  pub follows_right_none : (n : Node C) (old : Kept C) → FollowsRights R n old old []
  follows_right_none n old l r s t u names p we st led = subst (λ x. Stands R n old s x) led st

  pub leads_right_none : (n : Node C) (old : Kept C) (was : List (Event C)) → LeadsRights R n old [] was was
  leads_right_none n old was l r s t u names p we st led = stay (wide n l r) (0 * share_right R n s) was (value_of R n s t) (value_of R n s u) (ap (λ x. value_of R n s x) led)

  pub follows_left_one : (n : Node C) (old new : Kept C) (e : Event C) → FollowsLeft R n old new e → FollowsLefts R n old new (e ∷ [])
  follows_left_one n old new e one = follows_left_more n old old new [] e (follows_left_none n old) one

  pub leads_left_one : (n : Node C) (old : Kept C) (e : Event C) (was out : List (Event C)) → LeadsLeft R n old e was out → LeadsLefts R n old (e ∷ []) was out
  leads_left_one n old e was out one = leads_left_more n old old [] e was was out (follows_left_none n old) (leads_left_none n old was) one

  pub follows_right_one : (n : Node C) (old new : Kept C) (e : Event C) → FollowsRight R n old new e → FollowsRights R n old new (e ∷ [])
  follows_right_one n old new e one = follows_right_more n old old new [] e (follows_right_none n old) one

  pub leads_right_one : (n : Node C) (old : Kept C) (e : Event C) (was out : List (Event C)) → LeadsRight R n old e was out → LeadsRights R n old (e ∷ []) was out
  leads_right_one n old e was out one = leads_right_more n old old [] e was was out (follows_right_none n old) (leads_right_none n old was) one

  -- ---- all events of an input

  pub left_start : (old : Held C) (was : List (Event C)) (steps : ℕ) → RunsLeft R old old [] was was steps steps
  left_start old was steps = record {
    same = record { node = refl; read = refl };
    stands = follows_left_none old.state.node old.state.kept;
    leads = λ read. leads_left_none old.state.node old.state.kept was;
    quiet = λ quiet. refl;
    cost = omega arith;
  }

  pub left_step : (old now new : Held C) (es : List (Event C)) (i : ℕ) (e : Event C) (was mid out : List (Event C)) (before middle steps : ℕ) → i < length es → e ≡ get_or es i e
      → RunsLeft R old now (take i es) was mid before middle → LeftOne R now new e mid out middle steps → RunsLeft R old new (take (i + 1) es) was out before steps
  left_step old now new es i e was mid out before middle steps within is so one =
      let one_stands : FollowsLeft R old.state.node now.state.kept new.state.kept e = subst (λ n. FollowsLeft R n now.state.kept new.state.kept e) so.same.node one.stands in
      subst (λ pre. RunsLeft R old new pre was out before steps) (sym (take_more es i e within is)) (record {
        same = record { node = one.same.node ∙ so.same.node; read = one.same.read ∙ so.same.read };
        stands = follows_left_more old.state.node old.state.kept now.state.kept new.state.kept (take i es) e so.stands one_stands;
        leads = λ read. leads_left_more old.state.node old.state.kept now.state.kept (take i es) e was mid out so.stands (so.leads read)
            (subst (λ n. LeadsLeft R n now.state.kept e mid out) so.same.node (one.leads (so.same.read ∙ read)));
        quiet = λ quiet. one.quiet (so.same.read ∙ quiet) ∙ so.quiet quiet;
        cost =
            let first = so.cost in
            let second = one.cost in
            let size : length (take i es ++ e ∷ []) ≡ length (take i es) + 1 = length-append (take i es) (e ∷ []) in
            omega arith;
      })

  pub right_start : (old : Held C) (was : List (Event C)) (steps : ℕ) → RunsRight R old old [] was was steps steps
  right_start old was steps = record {
    same = record { node = refl; read = refl };
    stands = follows_right_none old.state.node old.state.kept;
    leads = λ read. leads_right_none old.state.node old.state.kept was;
    quiet = λ quiet. refl;
    cost = omega arith;
  }

  pub right_step : (old now new : Held C) (es : List (Event C)) (i : ℕ) (e : Event C) (was mid out : List (Event C)) (before middle steps : ℕ) → i < length es → e ≡ get_or es i e
      → RunsRight R old now (take i es) was mid before middle → RightOne R now new e mid out middle steps → RunsRight R old new (take (i + 1) es) was out before steps
  right_step old now new es i e was mid out before middle steps within is so one =
      let one_stands : FollowsRight R old.state.node now.state.kept new.state.kept e = subst (λ n. FollowsRight R n now.state.kept new.state.kept e) so.same.node one.stands in
      subst (λ pre. RunsRight R old new pre was out before steps) (sym (take_more es i e within is)) (record {
        same = record { node = one.same.node ∙ so.same.node; read = one.same.read ∙ so.same.read };
        stands = follows_right_more old.state.node old.state.kept now.state.kept new.state.kept (take i es) e so.stands one_stands;
        leads = λ read. leads_right_more old.state.node old.state.kept now.state.kept (take i es) e was mid out so.stands (so.leads read)
            (subst (λ n. LeadsRight R n now.state.kept e mid out) so.same.node (one.leads (so.same.read ∙ read)));
        quiet = λ quiet. one.quiet (so.same.read ∙ quiet) ∙ so.quiet quiet;
        cost =
            let first = so.cost in
            let second = one.cost in
            let size : length (take i es ++ e ∷ []) ≡ length (take i es) + 1 = length-append (take i es) (e ∷ []) in
            omega arith;
      })

  -- ---- both inputs

  pub follows_both : (n : Node C) (old mid new : Kept C) (ls rs : List (Event C)) → FollowsLefts R n old mid ls → FollowsRights R n mid new rs → FollowsBoth R n old new ls rs
  follows_both n old mid new ls rs left right l r s z t u names p wl wr st led red = right l r z t u names (proper_left ls l r s z t p wl led) wr (left l r s z t names p wl st led) red

  pub leads_both : (n : Node C) (old mid : Kept C) (ls rs one out : List (Event C)) → FollowsLefts R n old mid ls → LeadsLefts R n old ls [] one → LeadsRights R n mid rs one out → LeadsBoth R n old ls rs out
  leads_both n old mid ls rs one out left first second l r s z t u names p wl wr st led red =
      let done = first l r s z t names p wl st led in
      let more = second l r z t u names (proper_left ls l r s z t p wl led) wr (left l r s z t names p wl st led) red in
      record {
        leads = λ b start. more.leads b (done.leads b start);
        wide = λ w. more.wide (done.wide w);
        few = few_both (length one) (length out) (length ls * share_left R n t) (length rs * share_right R n z) done.few more.few;
      }

  pub left_one : (old new : Held C) (e : Event C) (was out : List (Event C)) (before steps : ℕ) → LeftOne R old new e was out before steps → RunsLeft R old new (e ∷ []) was out before steps
  left_one old new e was out before steps one = left_step old old new (e ∷ []) 0 e was was out before before steps (omega arith) refl (left_start old was before) one

  pub right_one : (old new : Held C) (e : Event C) (was out : List (Event C)) (before steps : ℕ) → RightOne R old new e was out before steps → RunsRight R old new (e ∷ []) was out before steps
  right_one old new e was out before steps one = right_step old old new (e ∷ []) 0 e was was out before before steps (omega arith) refl (right_start old was before) one

  pub stepped : (old mid new : Held C) (ls rs one out : List (Event C)) (before middle steps : ℕ) → RunsLeft R old mid ls [] one before middle → RunsRight R mid new rs one out middle steps → Stepped R old new ls rs out before steps
  stepped old mid new ls rs one out before middle steps left right =
      let right_stands : FollowsRights R old.state.node mid.state.kept new.state.kept rs = subst (λ n. FollowsRights R n mid.state.kept new.state.kept rs) left.same.node right.stands in
      record {
        same = record { node = right.same.node ∙ left.same.node; read = right.same.read ∙ left.same.read };
        stands = follows_both old.state.node old.state.kept mid.state.kept new.state.kept ls rs left.stands right_stands;
        leads = λ read. leads_both old.state.node old.state.kept mid.state.kept ls rs one out left.stands (left.leads read)
            (subst (λ n. LeadsRights R n mid.state.kept rs one out) left.same.node (right.leads (left.same.read ∙ read)));
        quiet = λ quiet. right.quiet (left.same.read ∙ quiet) ∙ left.quiet quiet;
        cost = let first = left.cost in let second = right.cost in omega arith;
      }

  -- ---- which events

  pub left_events : (old new : Held C) (feed : ℕ) (e : Event C) (all : List (List (Event C))) (x : Input) (es was out : List (Event C)) (before steps : ℕ) → left_in old.state.node ≡ x → events_from feed e all x ≡ es
      → RunsLeft R old new es was out before steps → RunsLeft R old new (events_from feed e all (left_in old.state.node)) was out before steps
  left_events old new feed e all x es was out before steps is made runs = subst (λ fs. RunsLeft R old new fs was out before steps) (sym (ap (events_from feed e all) is ∙ made)) runs

  pub right_events : (old new : Held C) (feed : ℕ) (e : Event C) (all : List (List (Event C))) (x : Input) (es was out : List (Event C)) (before steps : ℕ) → right_in old.state.node ≡ x → events_from feed e all x ≡ es
      → RunsRight R old new es was out before steps → RunsRight R old new (events_from feed e all (right_in old.state.node)) was out before steps
  right_events old new feed e all x es was out before steps is made runs = subst (λ fs. RunsRight R old new fs was out before steps) (sym (ap (events_from feed e all) is ∙ made)) runs

-- the events of a feed, where it is this one, and where not
pub at_this : {C : Type 0} (feed k : ℕ) (e : Event C) → (k == feed) ≡ true → at_feed feed e k ≡ e ∷ []
at_this feed k e is = ap (λ b. cond b (e ∷ []) []) is

pub at_other : {C : Type 0} (feed k : ℕ) (e : Event C) → (k == feed) ≡ false → at_feed feed e k ≡ []
at_other feed k e is = ap (λ b. cond b (e ∷ []) []) is

pub take_whole : {A : Type 0} (xs : List A) (i : ℕ) → length xs ≤ i → take i xs ≡ xs
take_whole [] zero h = refl
take_whole [] (suc i) h = refl
take_whole (x ∷ xs) zero h = absurd (omega arith)
take_whole (x ∷ xs) (suc i) h = ap (λ ys. x ∷ ys) (take_whole xs i (omega arith))
