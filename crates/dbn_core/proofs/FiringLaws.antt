-- What a firing leaves as it was, and which member refuses a group.
use Rattle.std.proofs.Common.{◌≡◌, ℕ, ◌+◌, ◌<◌, zero, suc, Bool, true, false, ◌&&◌, List, [], ◌∷◌, ◌++◌, map, refl, sym, ap, ◌∙◌, subst, Option, Some, None, Ok, Err, arith, length, eqb}
use Rattle.std.specs.Prelude.{slice_get}
use Rattle.std.specs.Option.{option_map, option_map_or}
use Rattle.std.specs.BTreeMap.{is_at}
use Rattle.std.specs.Cmp.{IsTotalOrder}
use Rattle.std.specs.Cmp.Lexicographic.{slice_cmp}
use Rattle.std.proofs.lemmas.Bool.{and_parts, eqb-true}
use Rattle.std.proofs.lemmas.List.{length-map}
use Rattle.dbn_value.specs.Members.{In}
use Rattle.dbn_value.specs.Order.{value_cmp, value_type, row_cmp, rows_total, exact_rows}
use Rattle.dbn_value.specs.Scope.{Env}
use Rattle.dbn_value.specs.Ascending.{ascending}
use Rattle.dbn_value.specs.declared.value.Value.{Value}
use Rattle.dbn_value.specs.declared.member.Member.{Member}
use Rattle.dbn_value.proofs.AscendingLaws.{in_ascending, is_one}
use Rattle.dbn_value.proofs.MemberLaws.{in_map}
use Rattle.dbn_marking.specs.Counts.{count_at}
use Rattle.dbn_net.specs.declared.decl.Decl.{Decl}
use Rattle.dbn_net.specs.declared.rules.Arc.{Arc}
use Rattle.dbn_net.specs.declared.rules.Transition.{Transition}
use Rattle.dbn_net.specs.declared.snapshot.Snapshot.{Snapshot}
use Rattle.dbn_net.specs.declared.want.Want.{Want}
use Rattle.dbn_formula.specs.Solutions.{HasShape}
use Rattle.dbn_net.proofs.Maybes.{some_is}
use Rattle.dbn_net.proofs.Listed.{get_within}
use Rattle.dbn_net.specs.Tables.{transitions, shapes, shape_of, places}
use Rattle.dbn_net.specs.Values.{Marking}
use Rattle.dbn_net.specs.Wants.{Spot, spot_cmp, spot_of, bound_tokens, want_at, wants}
use Rattle.dbn_net.specs.Enabled.{bound_env}
use Rattle.dbn_net.specs.Good.{Good}
use Rattle.dbn_net.specs.WellFormed.{WellFormed}
use Rattle.dbn_core.specs.declared.outcome.Fired.{Fired}
use Rattle.dbn_core.specs.declared.outcome.Outcome.TheVariants.{RolledBack}
use Rattle.dbn_core.specs.declared.outcome.Refusal.{Refusal}
use Rattle.dbn_core.specs.declared.outcome.Refusal.TheVariants.{Disabled}
use Rattle.dbn_core.specs.Moves.{Unnamed, taken_all}
use Rattle.dbn_core.specs.Fire.{Firing, fire_env, commits, produced, outcome_of, after_fire, fire, fire_at}
use Rattle.dbn_core.specs.Group.{Grouping, told_first, and_then, group_from, group, IsMember, Refuses}
use Rattle.dbn_core.proofs.MoveLaws.{taken_length, other_taken, other_given}
use Rattle.dbn_core.proofs.FitLaws.{stands_at, tokens_length}
use Rattle.dbn_core.proofs.GoodLaws.{WasFired, was_fired, takes, gifts}

-- ---- by number

pub record FiredAt (net : List Decl) (s : Snapshot) (n : ℕ) (row : List Value) (f : Fired) (after : Snapshot) : Type 0 where
  pub t : Transition
  pub is : slice_get (transitions net) n ≡ Some t
  pub was : WasFired net t s row f after

found_at : (net : List Decl) (s : Snapshot) (n : ℕ) (row : List Value) (f : Fired) (after : Snapshot) (found : Option Transition) → slice_get (transitions net) n ≡ found
    → option_map_or {U = Firing} (λ t. fire net t s row) found (Err Disabled) ≡ Ok (f, after) → FiredAt net s n row f after
found_at net s n row f after None is e = absurd cc
found_at net s n row f after (Some t) is e = record { t = t; is = is; was = was_fired net t s row f after e }

pub fired_at : (net : List Decl) (s : Snapshot) (n : ℕ) (row : List Value) (f : Fired) (after : Snapshot) → fire_at net s n row ≡ Ok (f, after) → FiredAt net s n row f after
fired_at net s n row f after e = found_at net s n row f after (slice_get (transitions net) n) refl e

-- ---- what a firing rolls back, and what it counts

rolled : (b : Bool) → outcome_of b ≡ RolledBack → b ≡ false
rolled true e = absurd cc
rolled false e = refl

pub keeps_facts : (net : List Decl) (s : Snapshot) (n : ℕ) (row : List Value) (f : Fired) (after : Snapshot) → fire_at net s n row ≡ Ok (f, after) → f.outcome ≡ RolledBack → after.instance ≡ s.instance
keeps_facts net s n row f after e back =
    let at = fired_at net s n row f after e in
    let committed = commits net (fire_env at.t row s.next) at.t.call s.instance in
    let is : committed ≡ false = rolled committed (sym (ap (λ (g : Fired). g.outcome) at.was.told_is) ∙ back) in
    ap (λ (z : Snapshot). z.instance) at.was.after_is ∙ ap (λ b. (after_fire net at.t s row (fire_env at.t row s.next) b).instance) is

pub counts_firings : (net : List Decl) (s : Snapshot) (n : ℕ) (row : List Value) (f : Fired) (after : Snapshot) → fire_at net s n row ≡ Ok (f, after)
    → (f.first ≡ s.next) × (after.next ≡ s.next + f.many) × (after.fired ≡ s.fired + 1)
counts_firings net s n row f after e =
    let at = fired_at net s n row f after e in (
      ap (λ (g : Fired). g.first) at.was.told_is,
      ap (λ (z : Snapshot). z.next) at.was.after_is ∙ ap (λ k. s.next + k) (sym (ap (λ (g : Fired). g.many) at.was.told_is)),
      ap (λ (z : Snapshot). z.fired) at.was.after_is,
    )

-- ---- rows that no pattern names

rows_order : IsTotalOrder (slice_cmp value_cmp)
rows_order = rows_total

not_wanted : (env : Env) (arcs : List Arc) (p : ℕ) (q : List Value) → Unnamed (bound_tokens env arcs) p q → (w : Want Value) → In w (wants env arcs) → (eqb p w.place && is_at (row_cmp w.row) q) ≡ false
not_wanted env arcs p q unnamed w at = by (eqb p w.place && is_at (row_cmp w.row) q) refl
  where
    by : (b : Bool) → (eqb p w.place && is_at (row_cmp w.row) q) ≡ b → b ≡ false
    by false e = refl
    by true e =
        let tokens : List (Want Value) = bound_tokens env arcs in
        let parts = and_parts (eqb p w.place) (is_at (row_cmp w.row) q) e in
        let found = in_map (want_at tokens) w (ascending spot_cmp (map spot_of tokens)) at in
        let place : found.0.0 ≡ p = sym (ap (λ (v : Want Value). v.place) found.2) ∙ sym (eqb-true p w.place parts.0) in
        let row : found.0.1 ≡ q = sym (ap (λ (v : Want Value). v.row) found.2) ∙ is_one rows_total exact_rows w.row q parts.1 in
        let same : found.0 ≡ (p, q) = ap (λ (n : ℕ). (n, found.0.1)) place ∙ ap (λ (r : List Value). (p, r)) row in
        absurd (unnamed (subst (λ (s : Spot Value). In s (map spot_of tokens)) same (in_ascending spot_cmp found.0 (map spot_of tokens) found.1)))

pub other_tokens : (net : List Decl) (s : Snapshot) (n : ℕ) (t : Transition) (row : List Value) (f : Fired) (after : Snapshot) (p : ℕ) (q : List Value) → WellFormed net → Good net s
    → slice_get (transitions net) n ≡ Some t → fire net t s row ≡ Ok (f, after) → Unnamed (bound_tokens (bound_env t row) t.ins) p q
    → Unnamed (bound_tokens (fire_env t row s.next) t.outs) p q → Unnamed (bound_tokens (fire_env t row s.next) t.backs) p q → count_at row_cmp after.marking p q ≡ count_at row_cmp s.marking p q
other_tokens net s n t row f after p q ok good is e ins outs backs =
    let was = was_fired net t s row f after e in
    let stands = stands_at net n t ok is in
    let env : Env = fire_env t row s.next in
    let committed : Bool = commits net env t.call s.instance in
    let takes_of : List (Want Value) = wants (bound_env t row) t.ins in
    let left : Marking = taken_all value_cmp takes_of s.marking in
    ap (λ (z : Snapshot). count_at row_cmp z.marking p q) was.after_is
    ∙ other_given value_cmp rows_order (wants env (produced t committed)) left p q
    (λ w at. (gifts net t env committed (length left) stands.fits (taken_length value_cmp rows_order takes_of s.marking ∙ tokens_length s.marking (places net) good.tokens_fit) w at).0)
    (not_wanted env (produced t committed) p q (by committed))
    ∙ other_taken value_cmp rows_order takes_of s.marking p q (takes net t s row stands.fits good.tokens_counted was.pass.on) good.tokens_counted (not_wanted (bound_env t row) t.ins p q ins)
  where
    by : (b : Bool) → Unnamed (bound_tokens (fire_env t row s.next) (produced t b)) p q
    by true = outs
    by false = backs

-- ---- groups

get_mapped : {A B : Type 0} (f : A → B) (xs : List A) (n : ℕ) → slice_get (map f xs) n ≡ option_map f (slice_get xs n)
get_mapped f [] n = refl
get_mapped f (x ∷ xs) zero = refl
get_mapped f (x ∷ xs) (suc n) = get_mapped f xs n

pub one_member : (net : List Decl) (s : Snapshot) (m : Member) (f : Fired) (after : Snapshot) → fire_at net s m.t m.row ≡ Ok (f, after) → group net s (m ∷ []) ≡ Ok (f ∷ [], after)
one_member net s m f after e = ap (λ made. and_then 0 (λ next. group_from 1 net [] next) made) e

pub one_refused : (net : List Decl) (s : Snapshot) (m : Member) (why : Refusal) → fire_at net s m.t m.row ≡ Err why → group net s (m ∷ []) ≡ Err (0, why)
one_refused net s m why e = ap (λ made. and_then 0 (λ next. group_from 1 net [] next) made) e

refusing : ℕ × Refusal → Grouping
refusing why = Err why

refused_is : (a b : ℕ × Refusal) → refusing a ≡ refusing b → a ≡ b
unfolding refusing
refused_is a b e = cc

firing_refused : Refusal → Firing
firing_refused why = Err why

-- the same, where the first member has number n
record RefusesFrom (net : List Decl) (n : ℕ) (s : Snapshot) (members : List Member) (i : ℕ) (why : Refusal) : Type 0 where
  front : List Member
  member : Member
  behind : List Member
  parts : members ≡ front ++ member ∷ behind
  number : n + length front ≡ i
  fired : List Fired
  mid : Snapshot
  before : group_from n net front s ≡ Ok (fired, mid)
  refused : fire_at net mid member.t member.row ≡ Err why

told_refused : (f : Fired) (g : Grouping) (z : ℕ × Refusal) → told_first f g ≡ Err z → g ≡ Err z
told_refused f (Ok all) z e = absurd cc
told_refused f (Err y) z e = e

refuses_by : (net : List Decl) (n i : ℕ) (why : Refusal) (m : Member) (members : List Member) (s : Snapshot) (made : Firing) → fire_at net s m.t m.row ≡ made
    → ((next : Snapshot) → group_from (n + 1) net members next ≡ Err (i, why) → RefusesFrom net (n + 1) next members i why)
    → and_then n (λ next. group_from (n + 1) net members next) made ≡ Err (i, why) → RefusesFrom net n s (m ∷ members) i why
unfolding refusing firing_refused
refuses_by net n i why m members s (Err other) is rest e =
    let same : (n, other) ≡ (i, why) = refused_is (n, other) (i, why) e in
    record {
      front = [];
      member = m;
      behind = members;
      parts = refl;
      number = let here : n ≡ i = ap (λ (z : ℕ × Refusal). z.0) same in omega (arith, here);
      fired = [];
      mid = s;
      before = refl;
      refused = is ∙ ap firing_refused (ap (λ (z : ℕ × Refusal). z.1) same);
    }
refuses_by net n i why m members s (Ok made) is rest e =
    let later = rest made.1 (told_refused made.0 (group_from (n + 1) net members made.1) (i, why) e) in
    record {
      front = m ∷ later.front;
      member = later.member;
      behind = later.behind;
      parts = ap (λ ms. m ∷ ms) later.parts;
      number = let there : n + 1 + length later.front ≡ i = later.number in omega (arith, there);
      fired = made.0 ∷ later.fired;
      mid = later.mid;
      before = ap (λ firing. and_then n (λ next. group_from (n + 1) net later.front next) firing) is ∙ ap (told_first made.0) later.before;
      refused = later.refused;
    }

refuses_from : (net : List Decl) (n i : ℕ) (why : Refusal) (members : List Member) (s : Snapshot) → group_from n net members s ≡ Err (i, why) → RefusesFrom net n s members i why
refuses_from net n i why [] s e = absurd cc
refuses_from net n i why (m ∷ members) s e = refuses_by net n i why m members s (fire_at net s m.t m.row) refl (λ next later. refuses_from net (n + 1) i why members next later) e

-- the first member that is refused after those before it
pub refuses : (net : List Decl) (s : Snapshot) (members : List Member) (i : ℕ) (why : Refusal) → group net s members ≡ Err (i, why) → Refuses net s members i why
refuses net s members i why e =
    let r = refuses_from net 0 i why members s e in
    record {
      front = r.front;
      member = r.member;
      behind = r.behind;
      parts = r.parts;
      number = let there : 0 + length r.front ≡ i = r.number in omega (arith, there);
      fired = r.fired;
      mid = r.mid;
      before = r.before;
      refused = r.refused;
    }

-- a member whose body is of the shapes of a net
pub member_fits : (net : List Decl) (m : Member) → slice_get (shapes net) m.t ≡ Some (map value_type m.row) → IsMember net m
member_fits net m is = record { within = within; shape = by (slice_get (transitions net) m.t) (sym (get_mapped shape_of (transitions net) m.t) ∙ is) }
  where
    within : m.t < length (transitions net)
    within = subst (λ n. m.t < n) (length-map (transitions net) shape_of) (get_within (shapes net) m.t (map value_type m.row) is)

    by : (found : Option Transition) → option_map shape_of found ≡ Some (map value_type m.row) → HasShape m.row (option_map_or shape_of found [])
    by None e = absurd cc
    by (Some t) e = sym (some_is (shape_of t) (map value_type m.row) e)
