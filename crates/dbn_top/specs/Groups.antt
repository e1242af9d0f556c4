-- The groups of a run, and what stands behind them.
use Rattle.std.specs.Prelude.{◌≡◌, cond, List, [], ◌∷◌, ◌++◌, Some, is_some, Result, Ok, Err}
use Rattle.dbn_model.specs.Lines.{Line}
use Rattle.dbn_model.specs.Lines.Line.{Text, Long}
use Rattle.dbn_value.specs.declared.member.Member.{Member}
use Rattle.dbn_codec.specs.Bodies.{member_of}
use Rattle.dbn_net.specs.declared.snapshot.Snapshot.{Snapshot}
use Rattle.dbn_command.specs.Lines.{asked}
use Rattle.dbn_command.specs.declared.command.Command.{Command}
use Rattle.dbn_command.specs.declared.command.Command.TheVariants as command
use Rattle.dbn_command.specs.declared.fault.LineFault.{LineFault}
use Rattle.dbn_core.specs.declared.outcome.Fired.{Fired}
use Rattle.dbn_core.specs.Group.{group}
use Rattle.dbn_keeper.specs.Files.{Folder}
use Rattle.dbn_store.specs.Folders.{meaning}
use Rattle.dbn_store.specs.States.{Situation, situation, RunState}
use Rattle.dbn_engine.specs.Steps.{Terms, line_answer, step}

-- ---- what is recorded

-- the members that a command asks for. A firing is a group of one.
abbrev pub members_of : Command → List Member
members_of command.Blank = []
members_of (command.Bindings t) = []
members_of (command.Fire t row) = member_of t row ∷ []
members_of (command.Group members) = members
members_of (command.Marking place) = []
members_of (command.Facts rel) = []
members_of command.Checkpoint = []

abbrev pub members_read : Result Command LineFault → List Member
members_read (Ok one) = members_of one
members_read (Err fault) = []

abbrev pub members_in : RunState → Line → List Member
members_in r Long = []
members_in r (Text bytes) = members_read (asked r.now.net (is_some r.cap) bytes)

-- the group of a line that is recorded; no other line has one
abbrev pub group_of : Terms → RunState → Line → List (List Member)
group_of terms r line = cond (line_answer terms r line).recorded (members_in r line ∷ []) []

-- the groups of a run over these lines, one after the other
abbrev pub groups_of : Terms → RunState → List Line → List (List Member)
groups_of terms r [] = []
groups_of terms r (line ∷ lines) = group_of terms r line ++ groups_of terms (step terms r line).next lines

-- ---- what stands

-- from the first situation to the last one the groups fire one after the other, each with all its members
abbrev pub AllFire : Situation → List (List Member) → Situation → Type 0
AllFire s [] end = end ≡ s
AllFire s (members ∷ groups) end = (all : List Fired) × (after : Snapshot) × (group s.net s.snapshot members ≡ Ok (all, after)) × AllFire (situation s.net after) groups end

-- a folder that stands for the situation behind these groups
abbrev pub StandsBehind : Situation → List (List Member) → Folder → Type 0
StandsBehind s groups f = (end : Situation) × (meaning f ≡ Some end) × AllFire s groups end
