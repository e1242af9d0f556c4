-- One command: its reply and the next state of the run, by the tables of replies in their order.
use Rattle.std.specs.Prelude.{ℕ, ◌+◌, ◌^◌, Bool, true, false, cond, ◌&&◌, nat_le, nat_lt, List, [], ◌∷◌, length, Option, Some, None, is_some, Result, Ok, Err}
use Rattle.std.specs.Option.{option_map_or}
use Rattle.dbn_model.specs.Lines.{Line}
use Rattle.dbn_model.specs.Lines.Line.{Text, Long}
use Rattle.dbn_model.specs.Runs.{Step}
use Rattle.dbn_value.specs.declared.value.Value.{Value}
use Rattle.dbn_value.specs.declared.member.Member.{Member}
use Rattle.dbn_instance.specs.Facts.{rows_of}
use Rattle.dbn_net.specs.declared.decl.Decl.{Decl}
use Rattle.dbn_net.specs.declared.snapshot.Snapshot.{Snapshot}
use Rattle.dbn_net.specs.Enabled.{bindings_at, shown}
use Rattle.dbn_net.specs.Texts.{canonical}
use Rattle.dbn_codec.specs.Bodies.{member_of, body, group_body}
use Rattle.dbn_keeper.specs.Keeping.{is_within}
use Rattle.dbn_keeper.specs.declared.opening.Form.{Form}
use Rattle.dbn_keeper.specs.declared.opening.Form.TheVariants.{One, Two}
use Rattle.dbn_command.specs.Lines.{asked}
use Rattle.dbn_command.specs.Replies.{reply_text}
use Rattle.dbn_command.specs.declared.command.Command.{Command}
use Rattle.dbn_command.specs.declared.command.Command.TheVariants as command
use Rattle.dbn_command.specs.declared.fault.LineFault.{LineFault}
use Rattle.dbn_command.specs.declared.fault.LineFault.TheVariants as fault
use Rattle.dbn_command.specs.declared.reply.Reply.{Reply}
use Rattle.dbn_command.specs.declared.reply.Reply.TheVariants as reply
use Rattle.dbn_command.specs.declared.reply.MemberWhy.{MemberWhy}
use Rattle.dbn_command.specs.declared.reply.MemberWhy.TheVariants as why
use Rattle.dbn_command.specs.declared.reply.GroupLine.{GroupLine}
use Rattle.dbn_core.specs.declared.outcome.Outcome.{Outcome}
use Rattle.dbn_core.specs.declared.outcome.Outcome.TheVariants.{Committed, RolledBack}
use Rattle.dbn_core.specs.declared.outcome.Fired.{Fired}
use Rattle.dbn_core.specs.declared.outcome.Refusal.{Refusal}
use Rattle.dbn_core.specs.declared.outcome.Refusal.TheVariants.{Disabled, UnknownId, FreshEnd, FiringEnd, CountLimit}
use Rattle.dbn_core.specs.Fire.{Firing, fire_at, refusal_at}
use Rattle.dbn_core.specs.Group.{Grouping, group}
use Rattle.dbn_store.specs.States.{Situation, situation, RunState}

-- what a run is told at its start
pub record Terms : Type 0 where
  -- the most bytes of the text of a checkpoint
  pub net_bytes : ℕ
  -- with so many records the run makes a checkpoint by itself
  pub every : Option ℕ

-- what a command leaves; `recorded`: it added a record, behind which a checkpoint may be due
pub record Answer : Type 0 where
  pub reply : Option Reply
  pub next : RunState
  pub recorded : Bool

-- nothing is recorded
abbrev pub stays : RunState → Option Reply → Answer
stays r said = record { reply = said; next = r; recorded = false }

abbrev pub answers : RunState → Reply → Answer
answers r said = stays r (Some said)

-- ---- records

-- a body of this size, and the gates at both its ends, end within the file, where there is one
abbrev pub has_room : RunState → ℕ → Bool
has_room r size = is_within r.cap (r.place + 6 + size)

-- the state behind a record of this size
abbrev pub recorded : RunState → ℕ → Snapshot → RunState
recorded r size after = record {
  now = situation r.now.net after;
  form = r.form;
  place = r.place + 5 + size;
  generation = r.generation;
  records = r.records + 1;
  cap = r.cap;
}

-- the body of members in a form. A body of form one has one member.
abbrev pub body_of : Form → List Member → List ℕ
body_of One [] = []
body_of One (m ∷ members) = body m
body_of Two members = group_body members

-- ---- checkpoints

-- the canonical text
abbrev pub text_at : Situation → List ℕ
text_at s = canonical s.net s.snapshot.instance s.snapshot.marking

-- a text of this size is within its limit, its file within that of files, and there is one more generation
abbrev pub fits : ℕ → RunState → ℕ → Bool
fits net_bytes r size = nat_le size net_bytes && (is_within r.cap (34 + size) && nat_lt r.generation (2 ^ 62))

abbrev pub checkpointed : RunState → ℕ → RunState
checkpointed r size = record { now = r.now; form = Two; place = 33 + size; generation = r.generation + 1; records = 0; cap = r.cap }

-- the canonical text fits
abbrev pub may_keep : ℕ → RunState → Bool
may_keep net_bytes r = fits net_bytes r (length (text_at r.now))

-- behind a checkpoint, where it fits
abbrev pub kept : ℕ → RunState → RunState
kept net_bytes r = cond (may_keep net_bytes r) (checkpointed r (length (text_at r.now))) r

-- the run asks for a checkpoint by itself
abbrev pub is_due : Option ℕ → RunState → Bool
is_due every r = option_map_or (λ most. nat_le most r.records) every false

-- behind a record, without a reply
abbrev pub tended : Terms → RunState → RunState
tended terms r = cond (is_due terms.every r) (kept terms.net_bytes r) r

-- ---- replies

abbrev pub refused : Refusal → Reply
refused Disabled = reply.Disabled
refused UnknownId = reply.UnknownId
refused FreshEnd = reply.FreshEnd
refused FiringEnd = reply.FiringEnd
refused (CountLimit place) = reply.Count place

abbrev pub why_of : Refusal → MemberWhy
why_of Disabled = why.Disabled
why_of UnknownId = why.UnknownId
why_of FreshEnd = why.FreshEnd
why_of FiringEnd = why.FiringEnd
why_of (CountLimit place) = why.Count place

abbrev pub is_committed : Outcome → Bool
is_committed Committed = true
is_committed RolledBack = false

-- of a firing of transition t, behind which there are so many
abbrev pub fired : ℕ → ℕ → Fired → Reply
fired t count f = cond (is_committed f.outcome) (reply.Committed t count f.first) (reply.RolledBack t count f.first)

-- of the members in their order, before which there were so many firings
abbrev pub group_lines : ℕ → List Member → List Fired → List GroupLine
group_lines count [] all = []
group_lines count (m ∷ members) [] = []
group_lines count (m ∷ members) (f ∷ all) = record { committed = is_committed f.outcome; t = m.t; fired = count + 1; first = f.first } ∷ group_lines (count + 1) members all

-- ---- a firing: the tests before it, then the room, then the limit of counts

abbrev pub fire_made : RunState → ℕ → ℕ → Firing → Answer
fire_made r t size (Ok made) = record { reply = Some (fired t made.1.fired made.0); next = recorded r size made.1; recorded = true }
fire_made r t size (Err refusal) = answers r (refused refusal)

abbrev pub fire_sized : RunState → ℕ → List Value → ℕ → Answer
fire_sized r t row size = cond (has_room r size) (fire_made r t size (fire_at r.now.net r.now.snapshot t row)) (answers r reply.StoreFull)

abbrev pub fire_ready : RunState → ℕ → List Value → Option Refusal → Answer
fire_ready r t row (Some refusal) = answers r (refused refusal)
fire_ready r t row None = fire_sized r t row (length (body_of r.form (member_of t row ∷ [])))

abbrev pub fire_answer : RunState → ℕ → List Value → Answer
fire_answer r t row = fire_ready r t row (refusal_at r.now.net r.now.snapshot t row)

-- ---- a group: the form of the store, then the room, then its members

-- form one has no groups of two or more
abbrev pub is_too_old : Form → List Member → Bool
is_too_old One members = nat_lt 1 (length members)
is_too_old Two members = false

abbrev pub group_made : RunState → List Member → ℕ → Grouping → Answer
group_made r members size (Ok made) = record { reply = Some (reply.Group (group_lines r.now.snapshot.fired members made.0)); next = recorded r size made.1; recorded = true }
group_made r members size (Err refusal) = answers r (reply.Member (refusal.0 + 1) (why_of refusal.1))

abbrev pub group_sized : RunState → List Member → ℕ → Answer
group_sized r members size = cond (has_room r size) (group_made r members size (group r.now.net r.now.snapshot members)) (answers r reply.StoreFull)

abbrev pub group_answer : RunState → List Member → Answer
group_answer r members = cond (is_too_old r.form members) (answers r reply.OldStore) (group_sized r members (length (body_of r.form members)))

-- ---- a checkpoint

abbrev pub checkpoint_reply : RunState → Bool → Reply
checkpoint_reply r true = reply.Checkpoint (r.generation + 1)
checkpoint_reply r false = reply.StoreFull

abbrev pub checkpoint_answer : ℕ → RunState → Answer
checkpoint_answer net_bytes r = stays (kept net_bytes r) (Some (checkpoint_reply r (may_keep net_bytes r)))

-- ---- any command

abbrev pub command_answer : Terms → RunState → Command → Answer
command_answer terms r command.Blank = stays r None
command_answer terms r (command.Bindings t) = answers r (reply.Bindings t (bindings_at r.now.net r.now.snapshot.instance r.now.snapshot.marking t))
command_answer terms r (command.Fire t row) = fire_answer r t row
command_answer terms r (command.Group members) = group_answer r members
command_answer terms r (command.Marking place) = answers r (reply.Marking (shown r.now.net r.now.snapshot.instance r.now.snapshot.marking place))
command_answer terms r (command.Facts rel) = answers r (reply.Facts (rows_of r.now.snapshot.instance rel))
command_answer terms r command.Checkpoint = checkpoint_answer terms.net_bytes r

-- what a line asks for, or the fault of the line; reading itself never wants memory
abbrev pub asked_answer : Terms → RunState → Result Command LineFault → Answer
asked_answer terms r (Ok command) = command_answer terms r command
asked_answer terms r (Err fault.Line) = answers r reply.Line
asked_answer terms r (Err (fault.Unknown name)) = answers r (reply.Unknown name)
asked_answer terms r (Err fault.Shape) = answers r reply.Shape
asked_answer terms r (Err fault.Memory) = stays r None

abbrev pub line_answer : Terms → RunState → Line → Answer
line_answer terms r Long = answers r reply.Long
line_answer terms r (Text bytes) = asked_answer terms r (asked r.now.net (is_some r.cap) bytes)

-- ---- one step of a run

-- the bytes of a reply, if there is one
abbrev pub said : List Decl → Option Reply → List ℕ
said net None = []
said net (Some one) = reply_text net one

abbrev pub behind : Terms → Answer → RunState
behind terms a = cond a.recorded (tended terms a.next) a.next

abbrev pub step_of : Terms → List Decl → Answer → Step RunState
step_of terms net a = record { reply = said net a.reply; next = behind terms a }

unfoldable pub step : Terms → RunState → Line → Step RunState
step terms r line = step_of terms r.now.net (line_answer terms r line)
