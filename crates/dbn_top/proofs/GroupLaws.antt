-- A run leaves what its groups leave, and fewer lines have a front of the groups.
use Rattle.std.proofs.Common.{◌≡◌, ℕ, zero, suc, ◌+◌, ◌≤◌, Bool, true, false, cond, List, [], ◌∷◌, ◌++◌, length, take, Option, None, Some, Result, Ok, Err, inl, inr, refl, sym, ap, subst, ◌∙◌, arith, append_assoc}
use Rattle.std.specs.Prelude.{is_some}
use Rattle.dbn_model.specs.Lines.{Line}
use Rattle.dbn_model.specs.Lines.Line.{Text, Long}
use Rattle.dbn_model.specs.Runs.{state_after, replies, answered}
use Rattle.dbn_value.specs.declared.value.Value.{Value}
use Rattle.dbn_value.specs.declared.member.Member.{Member}
use Rattle.dbn_codec.specs.Bodies.{member_of}
use Rattle.dbn_net.specs.declared.snapshot.Snapshot.{Snapshot}
use Rattle.dbn_command.specs.Lines.{asked}
use Rattle.dbn_command.specs.declared.command.Command.{Command}
use Rattle.dbn_command.specs.declared.command.Command.TheVariants as command
use Rattle.dbn_command.specs.declared.fault.LineFault.{LineFault}
use Rattle.dbn_command.specs.declared.fault.LineFault.TheVariants as fault
use Rattle.dbn_command.specs.declared.reply.Reply.TheVariants as reply
use Rattle.dbn_core.specs.declared.outcome.Fired.{Fired}
use Rattle.dbn_core.specs.declared.outcome.Refusal.{Refusal}
use Rattle.dbn_core.specs.Fire.{Firing, fire_at, refusal_at}
use Rattle.dbn_core.specs.Group.{Grouping, group, group_from, and_then}
use Rattle.dbn_keeper.specs.Files.{Folder}
use Rattle.dbn_store.specs.Folders.{meaning}
use Rattle.dbn_store.specs.States.{Situation, situation, RunState}
use Rattle.dbn_engine.specs.Steps.{Terms, Answer, answers, has_room, body_of, is_due, kept, checkpointed, may_keep, fire_made, fire_ready, is_too_old, group_made, group_sized, text_at, command_answer, asked_answer, line_answer, tended, step}
use Rattle.dbn_top.specs.declared.status.Status.{Status}
use Rattle.dbn_top.specs.declared.status.Status.TheVariants as status
use Rattle.dbn_top.specs.Crashes.{StandsAfter, StandsFront, IsFrontOfGroups}
use Rattle.dbn_top.specs.Groups.{members_of, members_read, members_in, group_of, groups_of, AllFire, StandsBehind}

-- ---- one line

-- the group of an answer, if it is recorded, leaves what the answer leaves
abbrev Whole : RunState → List Member → Answer → Type 0
Whole r members a = AllFire r.now (cond a.recorded (members ∷ []) []) a.next.now

fire_whole : (r : RunState) (t : ℕ) (row : List Value) (size : ℕ) (made : Firing) → fire_at r.now.net r.now.snapshot t row ≡ made → Whole r (member_of t row ∷ []) (fire_made r t size made)
fire_whole r t row size (Ok made) e = (made.0 ∷ [], made.1, ap (λ (f : Firing). and_then 0 (λ (next : Snapshot). group_from (0 + 1) r.now.net [] next) f) e, refl)
fire_whole r t row size (Err refusal) e = refl

sized_whole : (r : RunState) (t : ℕ) (row : List Value) (size : ℕ) (room : Bool) → Whole r (member_of t row ∷ []) (cond room (fire_made r t size (fire_at r.now.net r.now.snapshot t row)) (answers r reply.StoreFull))
sized_whole r t row size true = fire_whole r t row size (fire_at r.now.net r.now.snapshot t row) refl
sized_whole r t row size false = refl

ready_whole : (r : RunState) (t : ℕ) (row : List Value) (o : Option Refusal) → Whole r (member_of t row ∷ []) (fire_ready r t row o)
ready_whole r t row (Some refusal) = refl
ready_whole r t row None = let size = length (body_of r.form (member_of t row ∷ [])) in sized_whole r t row size (has_room r size)

members_whole : (r : RunState) (members : List Member) (size : ℕ) (made : Grouping) → group r.now.net r.now.snapshot members ≡ made → Whole r members (group_made r members size made)
members_whole r members size (Ok made) e = (made.0, made.1, e, refl)
members_whole r members size (Err refusal) e = refl

room_whole : (r : RunState) (members : List Member) (size : ℕ) (room : Bool) → Whole r members (cond room (group_made r members size (group r.now.net r.now.snapshot members)) (answers r reply.StoreFull))
room_whole r members size true = members_whole r members size (group r.now.net r.now.snapshot members) refl
room_whole r members size false = refl

group_whole : (r : RunState) (members : List Member) (old : Bool) → Whole r members (cond old (answers r reply.OldStore) (group_sized r members (length (body_of r.form members))))
group_whole r members true = refl
group_whole r members false = let size = length (body_of r.form members) in room_whole r members size (has_room r size)

-- a checkpoint leaves the situation as it is
same_or_kept : (r : RunState) (size : ℕ) (fit : Bool) → (cond fit (checkpointed r size) r).now ≡ r.now
same_or_kept r size true = refl
same_or_kept r size false = refl

kept_now : (net_bytes : ℕ) (r : RunState) → (kept net_bytes r).now ≡ r.now
kept_now net_bytes r = same_or_kept r (length (text_at r.now)) (may_keep net_bytes r)

same_or_tended : (net_bytes : ℕ) (r : RunState) (due : Bool) → (cond due (kept net_bytes r) r).now ≡ r.now
same_or_tended net_bytes r true = kept_now net_bytes r
same_or_tended net_bytes r false = refl

same_behind : (terms : Terms) (r : RunState) (recorded : Bool) → (cond recorded (tended terms r) r).now ≡ r.now
same_behind terms r true = same_or_tended terms.net_bytes r (is_due terms.every r)
same_behind terms r false = refl

command_whole : (terms : Terms) (r : RunState) (c : Command) → Whole r (members_of c) (command_answer terms r c)
command_whole terms r command.Blank = refl
command_whole terms r (command.Bindings t) = refl
command_whole terms r (command.Fire t row) = ready_whole r t row (refusal_at r.now.net r.now.snapshot t row)
command_whole terms r (command.Group members) = group_whole r members (is_too_old r.form members)
command_whole terms r (command.Marking place) = refl
command_whole terms r (command.Facts rel) = refl
command_whole terms r command.Checkpoint = kept_now terms.net_bytes r

asked_whole : (terms : Terms) (r : RunState) (o : Result Command LineFault) → Whole r (members_read o) (asked_answer terms r o)
asked_whole terms r (Ok c) = command_whole terms r c
asked_whole terms r (Err fault.Line) = refl
asked_whole terms r (Err (fault.Unknown name)) = refl
asked_whole terms r (Err fault.Shape) = refl
asked_whole terms r (Err fault.Memory) = refl

line_whole : (terms : Terms) (r : RunState) (line : Line) → Whole r (members_in r line) (line_answer terms r line)
line_whole terms r Long = refl
line_whole terms r (Text bytes) = asked_whole terms r (asked r.now.net (is_some r.cap) bytes)

line_fires : (terms : Terms) (r : RunState) (line : Line) → AllFire r.now (group_of terms r line) (step terms r line).next.now
unfolding step
line_fires terms r line =
    let a = line_answer terms r line in
    subst (AllFire r.now (group_of terms r line)) (sym (same_behind terms a.next a.recorded)) (line_whole terms r line)

-- ---- a run

both_fire : (s mid end : Situation) (xs ys : List (List Member)) → AllFire s xs mid → AllFire mid ys end → AllFire s (xs ++ ys) end
both_fire s mid end [] ys first second = subst (λ (s : Situation). AllFire s ys end) first second
both_fire s mid end (x ∷ xs) ys first second = (first.0, first.1, first.2, both_fire (situation s.net first.1) mid end xs ys first.3 second)

pub run_fires : (terms : Terms) (r : RunState) (lines : List Line) → AllFire r.now (groups_of terms r lines) (state_after (step terms) r lines).now
run_fires terms r [] = refl
run_fires terms r (line ∷ lines) =
    let next = (step terms r line).next in
    both_fire r.now next.now (state_after (step terms) next lines).now (group_of terms r line) (groups_of terms next lines) (line_fires terms r line) (run_fires terms next lines)

-- a folder that stands for the state behind some lines stands behind their groups
pub behind_groups : (terms : Terms) (r : RunState) (lines : List Line) (f : Folder) → meaning f ≡ Some (state_after (step terms) r lines).now → StandsBehind r.now (groups_of terms r lines) f
behind_groups terms r lines f is = ((state_after (step terms) r lines).now, is, run_fires terms r lines)

-- ---- in one way

same_made : (p q : List Fired × Snapshot) → ◌≡◌ {A = Grouping} (Ok p) (Ok q) → p ≡ q
same_made p q e = cc

pub one_way : (s x y : Situation) (groups : List (List Member)) → AllFire s groups x → AllFire s groups y → x ≡ y
one_way s x y [] first second = first ∙ sym second
one_way s x y (members ∷ groups) first second =
    let same : first.1 ≡ second.1 = ap (λ (p : List Fired × Snapshot). p.1) (same_made (first.0, first.1) (second.0, second.1) (sym first.2 ∙ second.2)) in
    one_way (situation s.net second.1) x y groups (subst (λ (after : Snapshot). AllFire (situation s.net after) groups x) same first.3) second.3

-- ---- fronts

pub front_all : (terms : Terms) (r : RunState) (n : ℕ) (lines : List Line) → (rest : List (List Member)) × (groups_of terms r lines ≡ groups_of terms r (take n lines) ++ rest)
front_all terms r zero lines = (groups_of terms r lines, refl)
front_all terms r (suc n) [] = ([], refl)
front_all terms r (suc n) (line ∷ lines) =
    let next = (step terms r line).next in
    let more = front_all terms next n lines in
    (more.0, ap (λ (l : List (List Member)). group_of terms r line ++ l) more.1 ∙ sym (append_assoc (group_of terms r line) (groups_of terms next (take n lines)) more.0))

pub front_more : (terms : Terms) (r : RunState) (j n : ℕ) (lines : List Line) → j ≤ n → (more : List (List Member)) × (groups_of terms r (take n lines) ≡ groups_of terms r (take j lines) ++ more)
front_more terms r zero n lines few = (groups_of terms r (take n lines), refl)
front_more terms r (suc j) zero lines few = absurd (omega (arith, few))
front_more terms r (suc j) (suc n) [] few = ([], refl)
front_more terms r (suc j) (suc n) (line ∷ lines) few =
    let next = (step terms r line).next in
    let more = front_more terms next j n lines (omega (arith, few)) in
    (more.0, ap (λ (l : List (List Member)). group_of terms r line ++ l) more.1 ∙ sym (append_assoc (group_of terms r line) (groups_of terms next (take j lines)) more.0))

no_fewer : (ended : Status) (j n : ℕ) → StandsAfter ended j n → j ≤ n
no_fewer status.Done j n e = omega (arith, e)
no_fewer status.Usage j n e = absurd e
no_fewer status.Net j n e = absurd e
no_fewer status.Store j n e = absurd e
no_fewer status.ReadFault j n e = omega (arith, e)
no_fewer status.WriteFault j n e = omega (arith, e)
no_fewer status.DiskFault j n (inl e) = omega (arith, e)
no_fewer status.DiskFault j n (inr e) = omega (arith, e)
no_fewer status.InputLimit j n e = omega (arith, e)
no_fewer status.Memory j n (inl e) = omega (arith, e)
no_fewer status.Memory j n (inr e) = omega (arith, e)

pub front_of_groups : (ended : Status) (terms : Terms) (r : RunState) (lines : List Line) (written x y : List ℕ) → StandsFront ended terms r lines written x y → IsFrontOfGroups terms r lines written x y
front_of_groups ended terms r lines written x y s =
    let j = answered (replies (step terms) r lines) (length written) in
    let rest = front_all terms r s.n lines in
    let more = front_more terms r j s.n lines (no_fewer ended j s.n s.after) in
    record {
      fired = groups_of terms r (take s.n lines);
      rest = rest.0;
      more = more.0;
      front = rest.1;
      acknowledged = more.1;
      stands = s.stands;
    }
