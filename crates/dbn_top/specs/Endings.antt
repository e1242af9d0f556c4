-- How a call ends: what was written, why it stopped, and what it left as it was.
use Rattle.std.specs.Prelude.{◌≡◌, ◌≢◌, ◌⊎◌, ℕ, ◌+◌, ◌≤◌, ◌&&◌, ◌||◌, Bool, true, List, length, take, Option, Some, is_some, is_none, IsTrue, IsFalse}
use Rattle.std.specs.Io.KnownBytes.{Appends, Consumes, IsAtEnd}
use Rattle.dbn_model.specs.Causes.{Rose}
use Rattle.dbn_model.specs.Content.{SameTold}
use Rattle.dbn_model.specs.Lines.{Line, whole_lines, due_lines}
use Rattle.dbn_disk.specs.Disk.{DiskState}
use Rattle.dbn_top.specs.declared.verb.Verb.{Verb}
use Rattle.dbn_top.specs.declared.status.Status.{Status}
use Rattle.dbn_top.specs.declared.status.Status.TheVariants as status
use Rattle.dbn_top.specs.Calls.{Stream, Device, Call, Given, Uses, IsUntouched, IsIdle}
use Rattle.dbn_top.specs.Writing.{Writes}
use Rattle.dbn_top.specs.Due.{declared, uses_of, reached, answers_of}

-- ---- how far a run went

-- the replies of a run that was broken off by its source are those of the lines that end within the bytes taken; the replies of
-- one that was broken off by a disk are whole
pub record BreaksOff (ended : Status) (lines : List Line) (source out : Stream) (answers : List Line → List ℕ) : Type 0 where
  pub read : ended ≡ status.ReadFault → (taken : List ℕ) × Consumes source.bytes source.bytes_after taken × Appends out.bytes out.bytes_after (answers (whole_lines taken))
  pub disk : ended ≡ status.DiskFault → (n : ℕ) × Appends out.bytes out.bytes_after (answers (take n lines))

-- ---- what was touched

-- what is used was read to its end
pub record IsReadWhole (uses : Uses) (call : Call) : Type 0 where
  pub net : IsTrue uses.net → IsAtEnd call.net.bytes_after
  pub commands : IsTrue uses.commands → IsAtEnd call.commands.bytes_after

-- what is not used stays as it was, and a fault is told only where something that is used failed
pub record Touches (uses : Uses) (ended : Status) (call : Call) : Type 0 where
  pub net : IsFalse uses.net → IsUntouched call.net
  pub commands : IsFalse uses.commands → IsUntouched call.commands
  pub read_fault : ended ≡ status.ReadFault → (IsTrue uses.net × Rose call.net.faults call.net.faults_after) ⊎ (IsTrue uses.commands × Rose call.commands.faults call.commands.faults_after)
  pub write_fault : ended ≡ status.WriteFault → Rose call.out.faults call.out.faults_after

-- the same of the disks
pub record TouchesDisks (uses : Uses) (ended : Status) (a b : Device) : Type 0 where
  pub a_idle : IsFalse uses.disks → IsIdle a
  pub b_idle : IsFalse uses.disks → IsIdle b
  pub fault : ended ≡ status.DiskFault → IsTrue uses.disks × (Rose a.before.faults a.after.faults ⊎ Rose b.before.faults b.after.faults)

-- ---- what is kept, told or not

-- no more than one byte above the limit was taken
pub record TakesFew (most : ℕ) (source : Stream) : Type 0 where
  pub taken : List ℕ
  pub consumed : Consumes source.bytes source.bytes_after taken
  pub few : length taken ≤ most + 1

-- a count rises only where the status tells it, and never falls; what is told stays told
pub record Keeps (ended : Status) (call : Call) : Type 0 where
  pub sources : ended ≢ status.ReadFault → (call.net.faults_after ≡ call.net.faults) × (call.commands.faults_after ≡ call.commands.faults)
  pub sink : ended ≢ status.WriteFault → call.out.faults_after ≡ call.out.faults
  pub told : SameTold call.net.bytes call.net.bytes_after × SameTold call.commands.bytes call.commands.bytes_after × SameTold call.out.bytes call.out.bytes_after
  pub later : (call.net.faults ≤ call.net.faults_after) × (call.commands.faults ≤ call.commands.faults_after) × (call.out.faults ≤ call.out.faults_after)
  pub few : TakesFew call.limits.net_bytes call.net × TakesFew call.limits.input_bytes call.commands

abbrev pub both_told : DiskState → DiskState → Bool
both_told a b = is_some a.content && is_some b.content

abbrev pub both_honest : DiskState → DiskState → Bool
both_honest a b = a.honest && b.honest

-- the same of the disks, each in its own place
pub record KeepsDisks (ended : Status) (a b : Device) : Type 0 where
  pub calm : ended ≢ status.DiskFault → (a.after.faults ≡ a.before.faults) × (b.after.faults ≡ b.before.faults)
  pub later : (a.before.faults ≤ a.after.faults) × (b.before.faults ≤ b.after.faults)
  pub told : both_told a.after b.after ≡ both_told a.before b.before
  pub honest : both_honest a.after b.after ≡ both_honest a.before b.before

-- ---- the whole ending

-- the statuses with which a verb can end, told or not
abbrev pub can_end : Option Verb → Status → Bool
can_end verb status.Done = is_some verb
can_end verb status.Usage = is_none verb
can_end verb status.Net = (uses_of verb).net
can_end verb status.Store = (uses_of verb).disks
can_end verb status.ReadFault = (uses_of verb).net || (uses_of verb).commands
can_end verb status.WriteFault = true
can_end verb status.DiskFault = (uses_of verb).disks
can_end verb status.InputLimit = (uses_of verb).net || (uses_of verb).commands
can_end verb status.Memory = true

-- what was written, how far a run went, and the order of work: what was not reached is untouched
pub record Ends (ended : Status) (call : Call) (given : Given) : Type 0 where
  pub writes : Writes ended (declared call.limits call.verb given) call.out
  pub served : (answers : List Line → List ℕ) → answers_of call.limits call.verb given ≡ Some answers
      → BreaksOff ended (due_lines call.limits.input_bytes given.commands) call.commands call.out answers
  pub read : ended ≡ status.Done → IsReadWhole (uses_of call.verb) call
  pub order : Touches (reached call.limits call.verb given) ended call
