-- A firing of a good snapshot leaves a good one, and so does a group.
use Rattle.std.proofs.Common.{◌≡◌, ℕ, ◌+◌, ◌<◌, ◌≤◌, ◌^◌, Bool, true, false, cond, not, ◌&&◌, ◌==◌, if◌then◌else◌, List, [], ◌∷◌, map, refl, sym, ap, ◌∙◌, subst, ⊎_elim, Option, Some, None, Ok, Err, arith, length}
use Rattle.std.specs.Prelude.{slice_get, nat_lt, nat_le}
use Rattle.std.specs.List.{list_all}
use Rattle.std.specs.List.Sorted.{IsStrictlySortedBy}
use Rattle.std.specs.Option.{option_map_or}
use Rattle.std.specs.Ordering.{is_eq}
use Rattle.std.specs.Cmp.{IsTotalOrder, nat_cmp_total, on_total, then_total}
use Rattle.std.specs.Cmp.Lexicographic.{slice_cmp}
use Rattle.std.proofs.lemmas.Bool.{and_parts, leb-true, ltb-false, eqb-false, not-false}
use Rattle.std.proofs.lemmas.List.Sums.{sum_by-cons}
use Rattle.dbn_value.specs.Members.{In}
use Rattle.dbn_value.specs.Order.{value_cmp, value_total, row_cmp, rows_total, exact_rows}
use Rattle.dbn_value.specs.Scope.{Env, value_of}
use Rattle.dbn_value.specs.Ascending.{ascending}
use Rattle.dbn_value.specs.declared.value.Value.{Value}
use Rattle.dbn_value.specs.declared.member.Member.{Member}
use Rattle.dbn_value.proofs.AscendingLaws.{sorted_ascending, in_ascending}
use Rattle.dbn_value.proofs.EntryLaws.{is_at_itself}
use Rattle.dbn_value.proofs.MemberLaws.{in_map, in_flat, all_at}
use Rattle.dbn_formula.specs.Holds.{Instance}
use Rattle.dbn_formula.specs.Solutions.{HasShape}
use Rattle.dbn_instance.specs.Facts.{IsInstance}
use Rattle.dbn_instance.specs.Grounding.{grounded}
use Rattle.dbn_instance.specs.declared.fact.Action.{Action}
use Rattle.dbn_instance.proofs.FactLaws.{instance_after_action}
use Rattle.dbn_marking.specs.Counts.{IsMarking}
use Rattle.dbn_net.specs.declared.decl.Decl.{Decl}
use Rattle.dbn_net.specs.declared.rules.Arc.{Arc}
use Rattle.dbn_net.specs.declared.rules.Pattern.{Pattern}
use Rattle.dbn_net.specs.declared.rules.Call.{Call}
use Rattle.dbn_net.specs.declared.rules.Transition.{Transition}
use Rattle.dbn_net.specs.declared.snapshot.Snapshot.{Snapshot}
use Rattle.dbn_net.specs.declared.want.Want.{Want}
use Rattle.dbn_net.specs.Tables.{actions, transitions, places, shape_of, is_control}
use Rattle.dbn_net.specs.Judging.{is_count, arcs_counted}
use Rattle.dbn_net.specs.Sentences.{consistent}
use Rattle.dbn_net.specs.Values.{Marking, ids_below}
use Rattle.dbn_net.specs.Wants.{Spot, spot_cmp, spot_of, AreWants, contained, bound_token, bound_tokens, total_of, want_at, wants}
use Rattle.dbn_net.specs.Enabled.{asked_part, bound_env, is_read, guard_holds, enabled, shape_at}
use Rattle.dbn_net.specs.Good.{Good}
use Rattle.dbn_net.specs.WellFormed.{WellFormed, Fits, arcs_known}
use Rattle.dbn_net.proofs.Listed.{get_within}
use Rattle.dbn_net.proofs.LiftLaws.{has_within}
use Rattle.dbn_core.specs.declared.outcome.Fired.{Fired}
use Rattle.dbn_core.specs.declared.outcome.Refusal.{Refusal}
use Rattle.dbn_core.specs.declared.outcome.Refusal.TheVariants.{Disabled, UnknownId, FreshEnd, FiringEnd, CountLimit}
use Rattle.dbn_core.specs.Standing.{Stands}
use Rattle.dbn_core.specs.Moves.{AreGifts, first_over, taken_all, CanTake}
use Rattle.dbn_core.specs.Fire.{Firing, fire_env, performed, called, commits, produced, moved, after_fire, told, first_met, refusal, fire_as, fire, fire_at}
use Rattle.dbn_core.specs.Group.{Grouping, AreMembers, told_first, and_then, group_from}
use Rattle.dbn_core.proofs.MoveLaws.{taken_length, taken_marking, can_take, given_marking, can_give, full_is_over}
use Rattle.dbn_core.proofs.ShapedLaws.{fire_typed}
use Rattle.dbn_core.proofs.FitLaws.{stands_at, scope_once, tokens_length, tokens_known, produced_known, facts_fit_after, tokens_fit_after}
use Rattle.dbn_core.proofs.IdLaws.{ids_after}

-- ---- what passed the tests before a firing

pub record Passed (net : List Decl) (t : Transition) (s : Snapshot) (row : List Value) : Type 0 where
  pub on : enabled net t s.instance s.marking row ≡ true
  pub known : ids_below s.next (asked_part t row) ≡ true
  pub room : s.next + length t.fresh ≤ 2 ^ 62
  pub more : (s.fired == 2 ^ 62) ≡ false

none_met : (a b c d : Bool) (x y z w : Refusal) → first_met ((a, x) ∷ (b, y) ∷ (c, z) ∷ (d, w) ∷ []) ≡ None → (a ≡ false) × (b ≡ false) × (c ≡ false) × (d ≡ false)
none_met true b c d x y z w e = absurd cc
none_met false true c d x y z w e = absurd cc
none_met false false true d x y z w e = absurd cc
none_met false false false true x y z w e = absurd cc
none_met false false false false x y z w e = (refl, refl, refl, refl)

pub passed : (net : List Decl) (t : Transition) (s : Snapshot) (row : List Value) → refusal net t s row ≡ None → Passed net t s row
passed net t s row none =
    let all = none_met (not (enabled net t s.instance s.marking row)) (not (ids_below s.next (asked_part t row))) (nat_lt (2 ^ 62) (s.next + length t.fresh)) (s.fired == 2 ^ 62) Disabled UnknownId FreshEnd FiringEnd none in
    record {
      on = not-false (enabled net t s.instance s.marking row) all.0;
      known = not-false (ids_below s.next (asked_part t row)) all.1;
      room = ltb-false (2 ^ 62) (s.next + length t.fresh) all.2;
      more = all.3;
    }

-- ---- tokens of patterns

spot_total : IsTotalOrder spot_cmp
spot_total = then_total (on_total (λ (s : Spot Value). s.0) nat_cmp_total) (on_total (λ (s : Spot Value). s.1) rows_total)

rows_order : IsTotalOrder (slice_cmp value_cmp)
rows_order = rows_total

spots_kept : (tokens : List (Want Value)) (spots : List (Spot Value)) → map spot_of (map (want_at tokens) spots) ≡ spots
spots_kept tokens [] = refl
spots_kept tokens (s ∷ spots) = ap (λ rest. s ∷ rest) (spots_kept tokens spots)

pub wants_stand : (env : Env) (arcs : List Arc) → AreWants value_cmp (wants env arcs)
wants_stand env arcs =
    subst (IsStrictlySortedBy spot_cmp) (sym (spots_kept (bound_tokens env arcs) (ascending spot_cmp (map spot_of (bound_tokens env arcs)))))
    (sorted_ascending spot_total (map spot_of (bound_tokens env arcs)))

-- a token counts in the total of its spot
total_some : (tokens : List (Want Value)) (spot : Spot Value) (w : Want Value) → In w tokens → 0 < w.many → spot ≡ spot_of w → 0 < total_of tokens spot
total_some [] spot w at some here = absurd at
total_some (v ∷ tokens) spot w at some here = ⊎_elim (λ same. first same) (λ later. more (total_some tokens spot w later some here)) at
  where
    part : Want Value → ℕ
    part u = if is_eq (spot_cmp spot (spot_of u)) then u.many else 0

    first : w ≡ v → 0 < total_of (v ∷ tokens) spot
    first same =
        let one : part w ≡ w.many = ap (λ b. cond b w.many 0) (subst (λ (s : Spot Value). is_eq (spot_cmp spot s) ≡ true) here (is_at_itself spot_total spot)) in
        let moved : part v ≡ part w = ap part (sym same) in
        let all = sum_by-cons part v tokens in
        omega arith

    more : 0 < total_of tokens spot → 0 < total_of (v ∷ tokens) spot
    more rest = let all = sum_by-cons part v tokens in omega arith

token_counts : (env : Env) (arcs : List Arc) → arcs_counted arcs ≡ true → (w : Want Value) → In w (bound_tokens env arcs) → 0 < w.many
token_counts env arcs counts w at =
    let in_arc = in_flat (λ (arc : Arc). map (bound_token env arc.place) arc.patterns) w arcs at in
    let found = in_map (bound_token env in_arc.0.place) w in_arc.0.patterns in_arc.2 in
    let all = all_at (λ (arc : Arc). list_all (λ (p : Pattern). is_count p.many) arc.patterns) in_arc.0 arcs counts in_arc.1 in
    let one = all_at (λ (p : Pattern). is_count p.many) found.0 in_arc.0.patterns all found.1 in
    subst (λ (v : Want Value). 0 < v.many) (sym found.2) (let some : 1 ≤ found.0.many = leb-true 1 found.0.many (and_parts (nat_le 1 found.0.many) (nat_le found.0.many 4294967295) one).0 in omega (arith, some))

-- each want is the total of a spot where some token is
record IsTotal (tokens : List (Want Value)) (w : Want Value) : Type 0 where
  token : Want Value
  among : In token tokens
  place : w.place ≡ token.place
  many : w.many ≡ total_of tokens (spot_of token)

total_at : (env : Env) (arcs : List Arc) (w : Want Value) → In w (wants env arcs) → IsTotal (bound_tokens env arcs) w
total_at env arcs w at =
    let tokens : List (Want Value) = bound_tokens env arcs in
    let found = in_map (want_at tokens) w (ascending spot_cmp (map spot_of tokens)) at in
    let token = in_map spot_of found.0 tokens (in_ascending spot_cmp found.0 (map spot_of tokens) found.1) in
    record {
      token = token.0;
      among = token.1;
      place = ap (λ (v : Want Value). v.place) found.2 ∙ ap (λ (s : Spot Value). s.0) token.2;
      many = ap (λ (v : Want Value). v.many) found.2 ∙ ap (total_of tokens) token.2;
    }

pub wants_some : (env : Env) (arcs : List Arc) → arcs_counted arcs ≡ true → (w : Want Value) → In w (wants env arcs) → 0 < w.many
wants_some env arcs counts w at =
    let one = total_at env arcs w at in
    let some : 0 < total_of (bound_tokens env arcs) (spot_of one.token) = total_some (bound_tokens env arcs) (spot_of one.token) one.token one.among (token_counts env arcs counts one.token one.among) refl in
    subst (λ n. 0 < n) (sym one.many) some

pub wants_within : (net : List Decl) (env : Env) (arcs : List Arc) → arcs_known net arcs ≡ true → (w : Want Value) → In w (wants env arcs) → w.place < length (places net)
wants_within net env arcs known w at =
    let one = total_at env arcs w at in
    let site = has_within is_control (places net) one.token.place (tokens_known net env arcs known one.token one.among) in
    subst (λ n. n < length (places net)) (sym one.place) (get_within (places net) one.token.place site.0 site.1)

produced_counted : (net : List Decl) (t : Transition) → Fits net t → (committed : Bool) → arcs_counted (produced t committed) ≡ true
produced_counted net t fits true = fits.outs
produced_counted net t fits false = fits.backs

-- ---- tokens of a firing

-- what is consumed can be taken
pub takes : (net : List Decl) (t : Transition) (s : Snapshot) (row : List Value) → Fits net t → IsMarking row_cmp s.marking → enabled net t s.instance s.marking row ≡ true
    → CanTake value_cmp (wants (bound_env t row) t.ins) s.marking
takes net t s row fits counted on =
    let env : Env = bound_env t row in
    let guarded = and_parts (contained value_cmp (wants env t.ins) s.marking && list_all (is_read net s.instance env) t.reads) (option_map_or (λ g. guard_holds g env) t.guard true) on in
    can_take value_cmp rows_order (wants env t.ins) s.marking (wants_stand env t.ins) (wants_some env t.ins fits.ins) counted
    (and_parts (contained value_cmp (wants env t.ins) s.marking) (list_all (is_read net s.instance env) t.reads) guarded.0).0

-- what is produced is of places that there are, and one or more of each
pub gifts : (net : List Decl) (t : Transition) (env : Env) (committed : Bool) (sites : ℕ) → Fits net t → sites ≡ length (places net) → AreGifts sites (wants env (produced t committed))
gifts net t env committed sites fits same w at = (
  subst (λ n. w.place < n) (sym same) (wants_within net env (produced t committed) (produced_known net t fits committed) w at),
  wants_some env (produced t committed) (produced_counted net t fits committed) w at,
)

counted_after : (net : List Decl) (t : Transition) (s : Snapshot) (row : List Value) (env : Env) (committed : Bool) → Fits net t → Good net s → enabled net t s.instance s.marking row ≡ true
    → first_over (moved t (bound_env t row) env committed s.marking) ≡ None → IsMarking row_cmp (moved t (bound_env t row) env committed s.marking)
counted_after net t s row env committed fits good on none =
    let ins : List (Want Value) = wants (bound_env t row) t.ins in
    let outs : List (Want Value) = wants env (produced t committed) in
    let left : Marking = taken_all value_cmp ins s.marking in
    let can = takes net t s row fits good.tokens_counted on in
    let counted = taken_marking value_cmp rows_order ins s.marking can good.tokens_counted in
    let each = gifts net t env committed (length left) fits (taken_length value_cmp rows_order ins s.marking ∙ tokens_length s.marking (places net) good.tokens_fit) in
    given_marking value_cmp rows_order outs left
    (can_give value_cmp rows_order outs left (wants_stand env (produced t committed)) each (sym (full_is_over value_cmp rows_order exact_rows outs left (wants_stand env (produced t committed)) each counted) ∙ none))
    counted

-- ---- facts of a firing

acted_ascends : (env : Env) (c : Call) (found : Option Action) (db : Instance) → IsInstance value_cmp db → IsInstance value_cmp (option_map_or (λ a. performed a (map (value_of env) c.args) db) found db)
acted_ascends env c None db is = is
acted_ascends env c (Some a) db is = instance_after_action value_total (grounded a.params (map (value_of env) c.args) a.deletes) (grounded a.params (map (value_of env) c.args) a.adds) db is

facts_ascend_after : (net : List Decl) (env : Env) (call : Option Call) (db : Instance) (b : Bool) → IsInstance value_cmp db → IsInstance value_cmp (if b then called net env call db else db)
facts_ascend_after net env None db true is = is
facts_ascend_after net env (Some c) db true is = acted_ascends env c (slice_get (actions net) c.action) db is
facts_ascend_after net env call db false is = is

holds_after : (net : List Decl) (env : Env) (call : Option Call) (db : Instance) (b : Bool) → commits net env call db ≡ b → consistent net db ≡ true → consistent net (if b then called net env call db else db) ≡ true
holds_after net env None db true commit holds = holds
holds_after net env (Some c) db true commit holds = commit
holds_after net env call db false commit holds = holds

-- ---- a firing

pub good_made : (net : List Decl) (t : Transition) (s : Snapshot) (row : List Value) (committed : Bool) → Stands net t → Good net s → HasShape row (shape_of t) → Passed net t s row
    → commits net (fire_env t row s.next) t.call s.instance ≡ committed → first_over (moved t (bound_env t row) (fire_env t row s.next) committed s.marking) ≡ None
    → Good net (after_fire net t s row (fire_env t row s.next) committed)
good_made net t s row committed stands good shape pass commit none =
    let env : Env = fire_env t row s.next in
    let apart = eqb-false s.fired (2 ^ 62) pass.more in
    let within = good.fired_within in
    record {
      facts_ascend = facts_ascend_after net env t.call s.instance committed good.facts_ascend;
      facts_fit = facts_fit_after net t env s.instance committed stands (fire_typed t row s.next (scope_once net t stands.fits) shape) good.facts_fit;
      tokens_counted = counted_after net t s row env committed stands.fits good pass.on none;
      tokens_fit = tokens_fit_after net t s.marking row s.next committed stands.fits shape good.tokens_fit;
      holds = holds_after net env t.call s.instance committed commit good.holds;
      ids = ids_after net t s.instance s.marking row s.next committed committed stands.fits shape pass.on pass.known good.ids;
      next_within = pass.room;
      fired_within = omega (arith, apart, within);
    }

-- what a firing that is not refused made
pub record WasFired (net : List Decl) (t : Transition) (s : Snapshot) (row : List Value) (f : Fired) (after : Snapshot) : Type 0 where
  pub pass : Passed net t s row
  pub none : first_over (moved t (bound_env t row) (fire_env t row s.next) (commits net (fire_env t row s.next) t.call s.instance) s.marking) ≡ None
  pub after_is : after ≡ after_fire net t s row (fire_env t row s.next) (commits net (fire_env t row s.next) t.call s.instance)
  pub told_is : f ≡ told t s (commits net (fire_env t row s.next) t.call s.instance)

within_is : (over : Option ℕ) (p q : Fired × Snapshot) → option_map_or {U = Firing} (λ place. Err (CountLimit place)) over (Ok p) ≡ Ok q → (over ≡ None) × (p ≡ q)
within_is None p q e = (refl, cc)
within_is (Some place) p q e = absurd cc

was_fired_by : (net : List Decl) (t : Transition) (s : Snapshot) (row : List Value) (why : Option Refusal) (f : Fired) (after : Snapshot) → refusal net t s row ≡ why
    → option_map_or {U = Firing} (λ r. Err r) why (fire_as net t s row (fire_env t row s.next)) ≡ Ok (f, after) → WasFired net t s row f after
was_fired_by net t s row (Some why) f after is e = absurd cc
was_fired_by net t s row None f after is e =
    let committed : Bool = commits net (fire_env t row s.next) t.call s.instance in
    let made = within_is (first_over (after_fire net t s row (fire_env t row s.next) committed).marking) (told t s committed, after_fire net t s row (fire_env t row s.next) committed) (f, after) e in
    record {
      pass = passed net t s row is;
      none = made.0;
      after_is = sym (ap (λ (z : Fired × Snapshot). z.1) made.1);
      told_is = sym (ap (λ (z : Fired × Snapshot). z.0) made.1);
    }

pub was_fired : (net : List Decl) (t : Transition) (s : Snapshot) (row : List Value) (f : Fired) (after : Snapshot) → fire net t s row ≡ Ok (f, after) → WasFired net t s row f after
was_fired net t s row f after e = was_fired_by net t s row (refusal net t s row) f after refl e

pub good_after : (net : List Decl) (t : Transition) (s after : Snapshot) (row : List Value) (f : Fired) → Stands net t → Good net s → HasShape row (shape_of t) → fire net t s row ≡ Ok (f, after) → Good net after
good_after net t s after row f stands good shape e =
    let was = was_fired net t s row f after e in
    subst (Good net) (sym was.after_is) (good_made net t s row _ stands good shape was.pass refl was.none)

-- ---- by number

at_number : (net : List Decl) (s after : Snapshot) (n : ℕ) (row : List Value) (f : Fired) (found : Option Transition) → WellFormed net → Good net s → slice_get (transitions net) n ≡ found
    → HasShape row (option_map_or shape_of found []) → option_map_or {U = Firing} (λ t. fire net t s row) found (Err Disabled) ≡ Ok (f, after) → Good net after
at_number net s after n row f None ok good is shape e = absurd cc
at_number net s after n row f (Some t) ok good is shape e = good_after net t s after row f (stands_at net n t ok is) good shape e

pub good_at : (net : List Decl) (s after : Snapshot) (n : ℕ) (row : List Value) (f : Fired) → WellFormed net → Good net s → HasShape row (shape_at net n) → fire_at net s n row ≡ Ok (f, after) → Good net after
good_at net s after n row f ok good shape e = at_number net s after n row f (slice_get (transitions net) n) ok good refl shape e

-- ---- groups

grouping : List Fired × Snapshot → Grouping
grouping all = Ok all

grouped_is : (p q : List Fired × Snapshot) → grouping p ≡ grouping q → p ≡ q
unfolding grouping
grouped_is p q e = cc

-- what the first member of a group made, and what the others made behind it
record Begins (net : List Decl) (n : ℕ) (m : Member) (members : List Member) (s : Snapshot) (fs : List Fired) (last : Snapshot) : Type 0 where
  first : Fired
  next : Snapshot
  rest : List Fired
  fires : fire_at net s m.t m.row ≡ Ok (first, next)
  others : group_from (n + 1) net members next ≡ Ok (rest, last)
  all : fs ≡ first ∷ rest

told_is : (g : Grouping) (f : Fired) (fs : List Fired) (last : Snapshot) → told_first f g ≡ Ok (fs, last) → (rest : List Fired) × (g ≡ Ok (rest, last)) × (fs ≡ f ∷ rest)
unfolding grouping
told_is (Err why) f fs last e = absurd cc
told_is (Ok all) f fs last e = let same : (f ∷ all.0, all.1) ≡ (fs, last) = grouped_is (f ∷ all.0, all.1) (fs, last) e in
    (all.0, ap (λ after. grouping (all.0, after)) (ap (λ (z : List Fired × Snapshot). z.1) same), sym (ap (λ (z : List Fired × Snapshot). z.0) same))

begins_by : (net : List Decl) (n : ℕ) (m : Member) (members : List Member) (s : Snapshot) (fs : List Fired) (last : Snapshot) (made : Firing) → fire_at net s m.t m.row ≡ made
    → and_then n (λ next. group_from (n + 1) net members next) made ≡ Ok (fs, last) → Begins net n m members s fs last
begins_by net n m members s fs last (Err why) is e = absurd cc
begins_by net n m members s fs last (Ok made) is e =
    let told = told_is (group_from (n + 1) net members made.1) made.0 fs last e in
    record { first = made.0; next = made.1; rest = told.0; fires = is; others = told.1; all = told.2 }

pub good_grouped : (net : List Decl) (n : ℕ) (members : List Member) (s last : Snapshot) (fs : List Fired) → WellFormed net → Good net s → AreMembers net members → group_from n net members s ≡ Ok (fs, last) → Good net last
unfolding grouping
good_grouped net n [] s last fs ok good all e = subst (Good net) (ap (λ (z : List Fired × Snapshot). z.1) (grouped_is ([], s) (fs, last) e)) good
good_grouped net n (m ∷ members) s last fs ok good all e =
    let begin = begins_by net n m members s fs last (fire_at net s m.t m.row) refl e in
    good_grouped net (n + 1) members begin.next last begin.rest ok (good_at net s begin.next m.t m.row begin.first ok good all.0.shape begin.fires) all.1 begin.others
