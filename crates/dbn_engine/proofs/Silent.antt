-- A line without a reply changes nothing.
use Rattle.std.proofs.Common.{◌≡◌, ℕ, Bool, true, false, cond, List, [], ◌∷◌, ◌++◌, length, Option, None, Some, Result, Ok, Err, refl, ap, ◌∙◌}
use Rattle.std.specs.Prelude.{is_some}
use Rattle.dbn_model.specs.Lines.{Line}
use Rattle.dbn_model.specs.Lines.Line.{Text, Long}
use Rattle.dbn_model.specs.Runs.{IsSilentWhereBlank}
use Rattle.dbn_value.specs.declared.value.Value.{Value}
use Rattle.dbn_value.specs.declared.member.Member.{Member}
use Rattle.dbn_net.specs.declared.decl.Decl.{Decl}
use Rattle.dbn_command.specs.Replies.{reply_text, fired_text, rows_text}
use Rattle.dbn_command.specs.declared.reply.Reply.{Reply}
use Rattle.dbn_command.specs.declared.reply.Reply.TheVariants as reply
use Rattle.dbn_command.specs.declared.command.Command.{Command}
use Rattle.dbn_command.specs.declared.command.Command.TheVariants as command
use Rattle.dbn_command.specs.declared.fault.LineFault.{LineFault}
use Rattle.dbn_command.specs.declared.fault.LineFault.TheVariants as fault
use Rattle.dbn_command.specs.Lines.{asked}
use Rattle.dbn_core.specs.declared.outcome.Refusal.{Refusal}
use Rattle.dbn_core.specs.Fire.{Firing, fire_at, refusal_at}
use Rattle.dbn_core.specs.Group.{Grouping, group}
use Rattle.dbn_store.specs.States.{RunState}
use Rattle.dbn_engine.specs.Steps.{Terms, Answer, has_room, body_of, fire_made, fire_ready, is_too_old, group_made, group_sized, command_answer, asked_answer, line_answer, tended, said, behind, step}

ends : (xs : List ℕ) (b : ℕ) → xs ++ b ∷ [] ≡ [] → ⊥
ends [] b e = cc
ends (x ∷ xs) b e = cc

-- every reply has bytes
pub has_text : (net : List Decl) (one : Reply) → reply_text net one ≡ [] → ⊥
unfolding reply_text fired_text rows_text
has_text net reply.Long e = cc
has_text net reply.Line e = cc
has_text net (reply.Unknown name) e = cc
has_text net reply.Shape e = cc
has_text net reply.Disabled e = cc
has_text net reply.UnknownId e = cc
has_text net reply.FreshEnd e = cc
has_text net reply.FiringEnd e = cc
has_text net reply.OldStore e = cc
has_text net reply.StoreFull e = cc
has_text net (reply.Count place) e = cc
has_text net (reply.Member number why) e = cc
has_text net (reply.Committed t fired first) e = cc
has_text net (reply.RolledBack t fired first) e = cc
has_text net (reply.Group lines) e = ends _ 10 e
has_text net (reply.Bindings t rows) e = ends _ 10 e
has_text net (reply.Marking rows) e = ends _ 10 e
has_text net (reply.Facts rows) e = ends _ 10 e
has_text net (reply.Checkpoint generation) e = cc

-- without a reply the state stays
abbrev IsQuiet : RunState → Answer → Type 0
IsQuiet r a = a.reply ≡ None → (a.next ≡ r) × (a.recorded ≡ false)

fire_quiet : (r : RunState) (t size : ℕ) (made : Firing) → IsQuiet r (fire_made r t size made)
fire_quiet r t size (Ok made) e = cc
fire_quiet r t size (Err refusal) e = cc

sized_quiet : (r : RunState) (t size : ℕ) (made : Firing) (room : Bool) → IsQuiet r (cond room (fire_made r t size made) (record { reply = Some reply.StoreFull; next = r; recorded = false }))
sized_quiet r t size made true e = fire_quiet r t size made e
sized_quiet r t size made false e = cc

ready_quiet : (r : RunState) (t : ℕ) (row : List Value) (o : Option Refusal) → IsQuiet r (fire_ready r t row o)
ready_quiet r t row (Some refusal) e = cc
ready_quiet r t row None e = let size = length (body_of r.form (record { t = t; row = row } ∷ [])) in sized_quiet r t size (fire_at r.now.net r.now.snapshot t row) (has_room r size) e

members_quiet : (r : RunState) (members : List Member) (size : ℕ) (made : Grouping) → IsQuiet r (group_made r members size made)
members_quiet r members size (Ok made) e = cc
members_quiet r members size (Err refusal) e = cc

room_quiet : (r : RunState) (members : List Member) (size : ℕ) (made : Grouping) (room : Bool) → IsQuiet r (cond room (group_made r members size made) (record { reply = Some reply.StoreFull; next = r; recorded = false }))
room_quiet r members size made true e = members_quiet r members size made e
room_quiet r members size made false e = cc

group_quiet : (r : RunState) (members : List Member) (old : Bool) → IsQuiet r (cond old (record { reply = Some reply.OldStore; next = r; recorded = false }) (group_sized r members (length (body_of r.form members))))
group_quiet r members true e = cc
group_quiet r members false e = let size = length (body_of r.form members) in room_quiet r members size (group r.now.net r.now.snapshot members) (has_room r size) e

command_quiet : (terms : Terms) (r : RunState) (c : Command) → IsQuiet r (command_answer terms r c)
command_quiet terms r command.Blank e = (refl, refl)
command_quiet terms r (command.Bindings t) e = cc
command_quiet terms r (command.Fire t row) e = ready_quiet r t row (refusal_at r.now.net r.now.snapshot t row) e
command_quiet terms r (command.Group members) e = group_quiet r members (is_too_old r.form members) e
command_quiet terms r (command.Marking place) e = cc
command_quiet terms r (command.Facts rel) e = cc
command_quiet terms r command.Checkpoint e = cc

asked_quiet : (terms : Terms) (r : RunState) (o : Result Command LineFault) → IsQuiet r (asked_answer terms r o)
asked_quiet terms r (Ok c) e = command_quiet terms r c e
asked_quiet terms r (Err fault.Line) e = cc
asked_quiet terms r (Err (fault.Unknown name)) e = cc
asked_quiet terms r (Err fault.Shape) e = cc
asked_quiet terms r (Err fault.Memory) e = (refl, refl)

line_quiet : (terms : Terms) (r : RunState) (line : Line) → IsQuiet r (line_answer terms r line)
line_quiet terms r Long e = cc
line_quiet terms r (Text bytes) e = asked_quiet terms r (asked r.now.net (is_some r.cap) bytes) e

nothing_said : (net : List Decl) (o : Option Reply) → said net o ≡ [] → o ≡ None
nothing_said net None e = refl
nothing_said net (Some one) e = absurd (has_text net one e)

behind_quiet : (terms : Terms) (r : RunState) (a : Answer) → (a.next ≡ r) × (a.recorded ≡ false) → behind terms a ≡ r
behind_quiet terms r a same = ap (λ (b : Bool). cond b (tended terms a.next) a.next) same.1 ∙ same.0

pub silent : (terms : Terms) → IsSilentWhereBlank (step terms)
unfolding step
silent terms r line e = behind_quiet terms r (line_answer terms r line) (line_quiet terms r line (nothing_said r.now.net (line_answer terms r line).reply e))
