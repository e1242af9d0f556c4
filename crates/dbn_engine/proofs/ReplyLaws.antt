-- Each answer to a command of the net has a text: its numbers are of the net, and its ids end by the last one.
use Rattle.std.proofs.Common.{◌≡◌, ℕ, ◌+◌, ◌<◌, ◌≤◌, ◌^◌, Bool, true, false, cond, not, ◌==◌, List, [], ◌∷◌, length, Option, None, Some, Result, Ok, Err, refl, sym, ap, subst, ◌∙◌, arith}
use Rattle.std.specs.Prelude.{slice_get, nat_lt, is_some}
use Rattle.std.specs.List.{AllByRecursion}
use Rattle.std.specs.Option.{option_map, option_map_or}
use Rattle.dbn_model.specs.Lines.{Line}
use Rattle.dbn_model.specs.Lines.Line.{Text, Long}
use Rattle.std.specs.Cmp.{IsTotalOrder}
use Rattle.std.specs.Cmp.Lexicographic.{slice_cmp}
use Rattle.dbn_value.specs.Order.{value_cmp, rows_total}
use Rattle.dbn_value.specs.Scope.{Env}
use Rattle.dbn_value.specs.declared.value.Value.{Value}
use Rattle.dbn_value.specs.declared.member.Member.{Member}
use Rattle.dbn_net.specs.declared.decl.Decl.{Decl}
use Rattle.dbn_net.specs.declared.rules.Transition.{Transition}
use Rattle.dbn_net.specs.declared.snapshot.Snapshot.{Snapshot}
use Rattle.dbn_net.specs.Tables.{places, transitions}
use Rattle.dbn_net.specs.Values.{Marking, ids_below}
use Rattle.dbn_net.specs.Wants.{wants}
use Rattle.dbn_net.specs.Enabled.{asked_part, bound_env, enabled}
use Rattle.dbn_net.specs.Good.{Good}
use Rattle.dbn_net.specs.WellFormed.{WellFormed}
use Rattle.dbn_net.proofs.Listed.{get_within}
use Rattle.dbn_net.proofs.Maybes.{some_is}
use Rattle.dbn_core.specs.declared.outcome.Fired.{Fired}
use Rattle.dbn_core.specs.declared.outcome.Refusal.{Refusal}
use Rattle.dbn_core.specs.declared.outcome.Refusal.TheVariants.{Disabled, UnknownId, FreshEnd, FiringEnd, CountLimit}
use Rattle.dbn_core.specs.Moves.{is_over, first_over, taken_all}
use Rattle.dbn_core.specs.Fire.{Firing, fire_env, commits, produced, moved, after_fire, told, first_met, refusal, fire, fire_as, fire_at, refusal_at}
use Rattle.dbn_core.specs.Group.{Grouping, IsMember, AreMembers, told_first, and_then, group_from, group}
use Rattle.dbn_core.proofs.MoveLaws.{taken_length, given_length}
use Rattle.dbn_core.proofs.FitLaws.{tokens_length}
use Rattle.dbn_core.proofs.GoodLaws.{was_fired, good_at}
use Rattle.dbn_command.specs.Lines.{asked}
use Rattle.dbn_command.specs.Replies.{HasIds, IsReply, IsWhy, fresh_of}
use Rattle.dbn_command.specs.declared.command.Command.{Command}
use Rattle.dbn_command.specs.declared.command.Command.TheVariants as command
use Rattle.dbn_command.specs.declared.fault.LineFault.{LineFault}
use Rattle.dbn_command.specs.declared.fault.LineFault.TheVariants as fault
use Rattle.dbn_command.specs.declared.reply.Reply.TheVariants as reply
use Rattle.dbn_store.specs.States.{RunState}
use Rattle.dbn_engine.specs.Asked.{IsOf}
use Rattle.dbn_engine.specs.Steps.{Terms, answers, has_room, body_of, refused, why_of, is_committed, group_lines, fire_made, fire_ready, is_too_old, group_made, group_sized, may_keep, checkpoint_reply, command_answer, asked_answer, line_answer}
use Rattle.dbn_engine.specs.Saying.{HasText}
use Rattle.dbn_engine.proofs.Asked.{asked_of}

-- ---- refusals

-- its place is one of the net
abbrev pub IsOfNet : List Decl → Refusal → Type 0
IsOfNet net Disabled = Unit {0}
IsOfNet net UnknownId = Unit {0}
IsOfNet net FreshEnd = Unit {0}
IsOfNet net FiringEnd = Unit {0}
IsOfNet net (CountLimit place) = place < length (places net)

refused_text : (net : List Decl) (why : Refusal) → IsOfNet net why → IsReply net (refused why)
refused_text net Disabled is = tt
refused_text net UnknownId is = tt
refused_text net FreshEnd is = tt
refused_text net FiringEnd is = tt
refused_text net (CountLimit place) is = is

member_text : (net : List Decl) (why : Refusal) → IsOfNet net why → IsWhy net (why_of why)
member_text net Disabled is = tt
member_text net UnknownId is = tt
member_text net FreshEnd is = tt
member_text net FiringEnd is = tt
member_text net (CountLimit place) is = is

met_of_net : (net : List Decl) (a b c d : Bool) (why : Refusal) → first_met ((a, Disabled) ∷ (b, UnknownId) ∷ (c, FreshEnd) ∷ (d, FiringEnd) ∷ []) ≡ Some why → IsOfNet net why
met_of_net net true b c d why e = subst (IsOfNet net) (some_is Disabled why e) tt
met_of_net net false true c d why e = subst (IsOfNet net) (some_is UnknownId why e) tt
met_of_net net false false true d why e = subst (IsOfNet net) (some_is FreshEnd why e) tt
met_of_net net false false false true why e = subst (IsOfNet net) (some_is FiringEnd why e) tt
met_of_net net false false false false why e = cc

refusal_of_net : (net : List Decl) (t : Transition) (s : Snapshot) (row : List Value) (why : Refusal) → refusal net t s row ≡ Some why → IsOfNet net why
refusal_of_net net t s row why e =
    met_of_net net (not (enabled net t s.instance s.marking row)) (not (ids_below s.next (asked_part t row))) (nat_lt (2 ^ 62) (s.next + length t.fresh)) (s.fired == 2 ^ 62) why e

ready_found : (net : List Decl) (s : Snapshot) (row : List Value) (found : Option Transition) (why : Refusal) → option_map_or (λ t. refusal net t s row) found (Some Disabled) ≡ Some why → IsOfNet net why
ready_found net s row None why e = subst (IsOfNet net) (some_is Disabled why e) tt
ready_found net s row (Some t) why e = refusal_of_net net t s row why e

pub ready_of_net : (net : List Decl) (s : Snapshot) (n : ℕ) (row : List Value) (why : Refusal) → refusal_at net s n row ≡ Some why → IsOfNet net why
ready_of_net net s n row why e = ready_found net s row (slice_get (transitions net) n) why e

-- ---- counts

over_in : (marking : Marking) (held : List (List Value × ℕ)) (over : Bool) (later : Option ℕ) (p : ℕ) → ((q : ℕ) → later ≡ Some q → q < length marking)
    → cond over (Some 0) (option_map (λ n. n + 1) later) ≡ Some p → p < length (held ∷ marking)
over_in marking held true later p rest e = let same : 0 ≡ p = some_is 0 p e in omega arith
over_in marking held false None p rest e = cc
over_in marking held false (Some q) p rest e =
    let same : q + 1 ≡ p = some_is (q + 1) p e in
    let within : q < length marking = rest q refl in
    omega arith

-- a place that is over is there
over_within : (marking : Marking) (p : ℕ) → first_over marking ≡ Some p → p < length marking
over_within [] p e = cc
over_within (held ∷ marking) p e = over_in marking held (is_over held) (first_over marking) p (λ q is. over_within marking q is) e

rows_order : IsTotalOrder (slice_cmp value_cmp)
rows_order = rows_total

moved_length : (net : List Decl) (t : Transition) (s : Snapshot) (row : List Value) (env : Env) (committed : Bool) → Good net s → length (moved t (bound_env t row) env committed s.marking) ≡ length (places net)
moved_length net t s row env committed good =
    given_length value_cmp rows_order (wants env (produced t committed)) (taken_all value_cmp (wants (bound_env t row) t.ins) s.marking)
    ∙ taken_length value_cmp rows_order (wants (bound_env t row) t.ins) s.marking ∙ tokens_length s.marking (places net) good.tokens_fit

abbrev firing : Fired × Snapshot → Firing
firing made = Ok made

abbrev refusing : Refusal → Firing
refusing why = Err why

firing_is : (made : Fired × Snapshot) (why : Refusal) → firing made ≡ refusing why → ⊥
firing_is made why e = cc

refusing_is : (a b : Refusal) → refusing a ≡ refusing b → a ≡ b
refusing_is a b e = cc

counts_of_net : (net : List Decl) (marking : Marking) (over : Option ℕ) (made : Fired × Snapshot) (why : Refusal) → length marking ≡ length (places net) → first_over marking ≡ over
    → option_map_or (λ place. refusing (CountLimit place)) over (firing made) ≡ refusing why → IsOfNet net why
counts_of_net net marking None made why long is e = absurd (firing_is made why e)
counts_of_net net marking (Some p) made why long is e =
    let within : p < length marking = over_within marking p is in
    let here : p < length (places net) = omega arith in
    subst (IsOfNet net) (refusing_is (CountLimit p) why e) here

refused_by : (net : List Decl) (t : Transition) (s : Snapshot) (row : List Value) (ready : Option Refusal) (why : Refusal) → Good net s → refusal net t s row ≡ ready
    → option_map_or refusing ready (fire_as net t s row (fire_env t row s.next)) ≡ refusing why → IsOfNet net why
refused_by net t s row (Some first) why good is e = subst (IsOfNet net) (refusing_is first why e) (refusal_of_net net t s row first is)
refused_by net t s row None why good is e =
    let env : Env = fire_env t row s.next in
    let committed : Bool = commits net env t.call s.instance in
    counts_of_net net (moved t (bound_env t row) env committed s.marking) (first_over (moved t (bound_env t row) env committed s.marking)) (told t s committed, after_fire net t s row env committed) why
    (moved_length net t s row env committed good) refl e

fire_found : (net : List Decl) (s : Snapshot) (row : List Value) (found : Option Transition) (why : Refusal) → Good net s → option_map_or (λ t. fire net t s row) found (refusing Disabled) ≡ refusing why → IsOfNet net why
fire_found net s row None why good e = subst (IsOfNet net) (refusing_is Disabled why e) tt
fire_found net s row (Some t) why good e = refused_by net t s row (refusal net t s row) why good refl e

-- a refused firing names a place of the net
pub refused_of_net : (net : List Decl) (s : Snapshot) (n : ℕ) (row : List Value) (why : Refusal) → Good net s → fire_at net s n row ≡ Err why → IsOfNet net why
refused_of_net net s n row why good e = fire_found net s row (slice_get (transitions net) n) why good e

-- ---- ids

ids_found : (net : List Decl) (s after : Snapshot) (n : ℕ) (row : List Value) (f : Fired) (found : Option Transition) → slice_get (transitions net) n ≡ found
    → option_map_or (λ t. fire net t s row) found (refusing Disabled) ≡ firing (f, after) → HasIds net n f.first
ids_found net s after n row f None is e = absurd (firing_is (f, after) Disabled (sym e))
ids_found net s after n row f (Some t) is e =
    let was = was_fired net t s row f after e in
    let first : f.first ≡ s.next = ap (λ (x : Fired). x.first) was.told_is in
    let own : length (fresh_of net n) ≡ length t.fresh = ap (λ (o : Option Transition). length (option_map_or (λ x. x.fresh) o [])) is in
    let room : s.next + length t.fresh ≤ 2 ^ 62 = was.pass.room in
    let ends : f.first + length (fresh_of net n) ≤ 2 ^ 62 = omega arith in
    (get_within (transitions net) n t is, ends)

-- the fresh ids of a firing end by the last one
pub fired_ids : (net : List Decl) (s after : Snapshot) (n : ℕ) (row : List Value) (f : Fired) → fire_at net s n row ≡ Ok (f, after) → HasIds net n f.first
fired_ids net s after n row f e = ids_found net s after n row f (slice_get (transitions net) n) refl e

fired_reply : (net : List Decl) (t count first : ℕ) (committed : Bool) → HasIds net t first → IsReply net (cond committed (reply.Committed t count first) (reply.RolledBack t count first))
fired_reply net t count first true ids = ids
fired_reply net t count first false ids = ids

-- ---- groups

abbrev grouping : List Fired × Snapshot → Grouping
grouping all = Ok all

abbrev stopping : ℕ × Refusal → Grouping
stopping why = Err why

grouping_is : (a b : List Fired × Snapshot) → grouping a ≡ grouping b → a ≡ b
grouping_is a b e = cc

stopping_is : (a b : ℕ × Refusal) → stopping a ≡ stopping b → a ≡ b
stopping_is a b e = cc

not_both : (a : List Fired × Snapshot) (b : ℕ × Refusal) → grouping a ≡ stopping b → ⊥
not_both a b e = cc

-- what is said of the others where the first one fired
told_refusal : (f : Fired) (g : Grouping) (why : ℕ × Refusal) → told_first f g ≡ stopping why → g ≡ stopping why
told_refusal f (Ok all) why e = absurd (not_both (f ∷ all.0, all.1) why e)
told_refusal f (Err other) why e = e

told_all : (f : Fired) (g : Grouping) (fs : List Fired) (last : Snapshot) → told_first f g ≡ grouping (fs, last) → (rest : List Fired) × (g ≡ grouping (rest, last)) × (fs ≡ f ∷ rest)
told_all f (Err why) fs last e = absurd (not_both (fs, last) why (sym e))
told_all f (Ok all) fs last e =
    let same : (f ∷ all.0, all.1) ≡ (fs, last) = grouping_is (f ∷ all.0, all.1) (fs, last) e in
    (all.0, ap (λ after. grouping (all.0, after)) (ap (λ (z : List Fired × Snapshot). z.1) same), sym (ap (λ (z : List Fired × Snapshot). z.0) same))

-- a refused member names a place of the net, and is one of the group
pub record IsRefusedAt (net : List Decl) (n : ℕ) (members : List Member) (why : ℕ × Refusal) : Type 0 where
  pub of_net : IsOfNet net why.1
  pub within : why.0 < n + length members

group_by : (net : List Decl) (n : ℕ) (m : Member) (members : List Member) (s : Snapshot) (made : Firing) (why : ℕ × Refusal) → WellFormed net → Good net s → IsMember net m → fire_at net s m.t m.row ≡ made
    → ((next : Snapshot) → Good net next → group_from (n + 1) net members next ≡ stopping why → IsRefusedAt net (n + 1) members why)
    → and_then n (λ next. group_from (n + 1) net members next) made ≡ stopping why → IsRefusedAt net n (m ∷ members) why
group_by net n m members s (Err first) why ok good is fires rest e =
    subst (IsRefusedAt net n (m ∷ members)) (stopping_is (n, first) why e) (record { of_net = refused_of_net net s m.t m.row first good fires; within = omega arith })
group_by net n m members s (Ok made) why ok good is fires rest e =
    let later = rest made.1 (good_at net s made.1 m.t m.row made.0 ok good is.shape fires) (told_refusal made.0 (group_from (n + 1) net members made.1) why e) in
    let within : why.0 < n + 1 + length members = later.within in
    record { of_net = later.of_net; within = omega arith }

pub group_refused : (net : List Decl) (n : ℕ) (members : List Member) (s : Snapshot) (why : ℕ × Refusal) → WellFormed net → Good net s → AreMembers net members → group_from n net members s ≡ stopping why
    → IsRefusedAt net n members why
group_refused net n [] s why ok good all e = absurd (not_both ([], s) why e)
group_refused net n (m ∷ members) s why ok good all e =
    group_by net n m members s (fire_at net s m.t m.row) why ok good all.0 refl (λ next fine is. group_refused net (n + 1) members next why ok fine all.1 is) e

lines_by : (net : List Decl) (n count : ℕ) (m : Member) (members : List Member) (s last : Snapshot) (fs : List Fired) (made : Firing) → WellFormed net → Good net s → IsMember net m → fire_at net s m.t m.row ≡ made
    → ((next : Snapshot) (rest : List Fired) → Good net next → group_from (n + 1) net members next ≡ grouping (rest, last) → AllByRecursion (λ l. HasIds net l.t l.first) (group_lines (count + 1) members rest))
    → and_then n (λ next. group_from (n + 1) net members next) made ≡ grouping (fs, last) → AllByRecursion (λ l. HasIds net l.t l.first) (group_lines count (m ∷ members) fs)
lines_by net n count m members s last fs (Err why) ok good is fires rest e = absurd (not_both (fs, last) (n, why) (sym e))
lines_by net n count m members s last fs (Ok made) ok good is fires rest e =
    let all = told_all made.0 (group_from (n + 1) net members made.1) fs last e in
    subst (λ (l : List Fired). AllByRecursion (λ l. HasIds net l.t l.first) (group_lines count (m ∷ members) l)) (sym all.2)
    (fired_ids net s made.1 m.t m.row made.0 fires, rest made.1 all.0 (good_at net s made.1 m.t m.row made.0 ok good is.shape fires) all.1)

pub lines_ids : (net : List Decl) (n count : ℕ) (members : List Member) (s last : Snapshot) (fs : List Fired) → WellFormed net → Good net s → AreMembers net members → group_from n net members s ≡ grouping (fs, last)
    → AllByRecursion (λ l. HasIds net l.t l.first) (group_lines count members fs)
lines_ids net n count [] s last fs ok good all e = tt
lines_ids net n count (m ∷ members) s last fs ok good all e =
    lines_by net n count m members s last fs (fire_at net s m.t m.row) ok good all.0 refl (λ next rest fine is. lines_ids net (n + 1) (count + 1) members next last rest ok fine all.1 is) e

-- ---- each command

module _ (r : RunState) (ok : WellFormed r.now.net) (good : Good r.now.net r.now.snapshot) where
  made_text : (t size : ℕ) (row : List Value) (made : Firing) → fire_at r.now.net r.now.snapshot t row ≡ made → HasText r.now.net (fire_made r t size made).reply
  made_text t size row (Ok made) fires = fired_reply r.now.net t made.1.fired made.0.first (is_committed made.0.outcome) (fired_ids r.now.net r.now.snapshot made.1 t row made.0 fires)
  made_text t size row (Err why) fires = refused_text r.now.net why (refused_of_net r.now.net r.now.snapshot t row why good fires)

  sized_text : (t size : ℕ) (row : List Value) (room : Bool) → HasText r.now.net (cond room (fire_made r t size (fire_at r.now.net r.now.snapshot t row)) (answers r reply.StoreFull)).reply
  sized_text t size row true = made_text t size row (fire_at r.now.net r.now.snapshot t row) refl
  sized_text t size row false = tt

  ready_text : (t : ℕ) (row : List Value) (ready : Option Refusal) → refusal_at r.now.net r.now.snapshot t row ≡ ready → HasText r.now.net (fire_ready r t row ready).reply
  ready_text t row (Some why) is = refused_text r.now.net why (ready_of_net r.now.net r.now.snapshot t row why is)
  ready_text t row None is = let size = length (body_of r.form (record { t = t; row = row } ∷ [])) in sized_text t size row (has_room r size)

  members_text : (members : List Member) (size : ℕ) (made : Grouping) → AreMembers r.now.net members → group r.now.net r.now.snapshot members ≡ made → HasText r.now.net (group_made r members size made).reply
  members_text members size (Ok made) all fires = lines_ids r.now.net 0 r.now.snapshot.fired members r.now.snapshot made.1 made.0 ok good all fires
  members_text members size (Err why) all fires = member_text r.now.net why.1 (group_refused r.now.net 0 members r.now.snapshot why ok good all fires).of_net

  room_text : (members : List Member) (size : ℕ) (room : Bool) → AreMembers r.now.net members
      → HasText r.now.net (cond room (group_made r members size (group r.now.net r.now.snapshot members)) (answers r reply.StoreFull)).reply
  room_text members size true all = members_text members size (group r.now.net r.now.snapshot members) all refl
  room_text members size false all = tt

  group_text : (members : List Member) (old : Bool) → AreMembers r.now.net members → HasText r.now.net (cond old (answers r reply.OldStore) (group_sized r members (length (body_of r.form members)))).reply
  group_text members true all = tt
  group_text members false all = let size = length (body_of r.form members) in room_text members size (has_room r size) all

  kept_text : (fits : Bool) → IsReply r.now.net (checkpoint_reply r fits)
  kept_text true = tt
  kept_text false = tt

  command_text : (terms : Terms) (c : Command) → IsOf r.now.net c → HasText r.now.net (command_answer terms r c).reply
  command_text terms command.Blank of = tt
  command_text terms (command.Bindings t) of = of
  command_text terms (command.Fire t row) of = ready_text t row (refusal_at r.now.net r.now.snapshot t row) refl
  command_text terms (command.Group members) of = group_text members (is_too_old r.form members) of.2
  command_text terms (command.Marking place) of = tt
  command_text terms (command.Facts rel) of = tt
  command_text terms command.Checkpoint of = kept_text (may_keep terms.net_bytes r)

  asked_text : (terms : Terms) (bytes : List ℕ) (o : Result Command LineFault) → asked r.now.net (is_some r.cap) bytes ≡ o → HasText r.now.net (asked_answer terms r o).reply
  asked_text terms bytes (Ok c) is = command_text terms c (asked_of r.now.net (is_some r.cap) bytes c is)
  asked_text terms bytes (Err fault.Line) is = tt
  asked_text terms bytes (Err (fault.Unknown name)) is = tt
  asked_text terms bytes (Err fault.Shape) is = tt
  asked_text terms bytes (Err fault.Memory) is = tt

  -- the answer to each line has a text
  pub line_text : (terms : Terms) (line : Line) → HasText r.now.net (line_answer terms r line).reply
  line_text terms Long = tt
  line_text terms (Text bytes) = asked_text terms bytes (asked r.now.net (is_some r.cap) bytes) refl
