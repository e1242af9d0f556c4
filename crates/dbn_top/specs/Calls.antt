-- A call of the program: what it was given, what it left, and what a verb uses of it.
use Rattle.std.specs.Prelude.{◌≡◌, ℕ, Bool, List, Option, Some, IsTrue}
use Rattle.dbn_disk.specs.Disk.{DiskState, Only, Still}
use Rattle.dbn_io.specs.declared.limits.Limits.{Limits}
use Rattle.dbn_top.specs.declared.verb.Verb.{Verb}

-- a source or a sink, before the call and after it
pub record Stream : Type 0 where
  pub bytes : Option (List ℕ)
  pub bytes_after : Option (List ℕ)
  pub faults : ℕ
  pub faults_after : ℕ

abbrev pub stream : Option (List ℕ) → Option (List ℕ) → ℕ → ℕ → Stream
stream bytes bytes_after faults faults_after = record { bytes = bytes; bytes_after = bytes_after; faults = faults; faults_after = faults_after }

-- a disk, before the call and after it
pub record Device : Type 1 where
  pub before : DiskState
  pub after : DiskState

abbrev pub device : DiskState → DiskState → Device
device before after = record { before = before; after = after }

-- a call but for its disks; without a verb the words name none
pub record Call : Type 0 where
  pub verb : Option Verb
  pub limits : Limits
  pub net : Stream
  pub commands : Stream
  pub out : Stream

abbrev pub call_of : Option Verb → Limits → Stream → Stream → Stream → Call
call_of verb limits net commands out = record { verb = verb; limits = limits; net = net; commands = commands; out = out }

-- all that there is to be read: the bytes of both sources and of both disks
pub record Given : Type 0 where
  pub net : List ℕ
  pub commands : List ℕ
  pub a : List ℕ
  pub b : List ℕ

-- which of these are used
pub record Uses : Type 0 where
  pub net : Bool
  pub commands : Bool
  pub disks : Bool

abbrev pub uses : Bool → Bool → Bool → Uses
uses net commands disks = record { net = net; commands = commands; disks = disks }

-- the call tells what it was given, where that is used
pub record Tells (uses : Uses) (call : Call) (a b : Option (List ℕ)) (given : Given) : Type 0 where
  pub net : IsTrue uses.net → call.net.bytes ≡ Some given.net
  pub commands : IsTrue uses.commands → call.commands.bytes ≡ Some given.commands
  pub a_told : IsTrue uses.disks → a ≡ Some given.a
  pub b_told : IsTrue uses.disks → b ≡ Some given.b

-- an honest disk on which nothing is pending: a crash now leaves what it holds
pub record IsSettled (disk : DiskState) : Type 0 where
  pub honest : IsTrue disk.honest
  pub only : (bytes : List ℕ) → disk.content ≡ Some bytes → Only bytes disk.image

abbrev pub IsUntouched : Stream → Type 0
IsUntouched stream = (stream.bytes_after ≡ stream.bytes) × (stream.faults_after ≡ stream.faults)

-- a disk on which no call was made
pub record IsIdle (disk : Device) : Type 0 where
  pub content : disk.after.content ≡ disk.before.content
  pub honest : disk.after.honest ≡ disk.before.honest
  pub faults : disk.after.faults ≡ disk.before.faults
  pub still : Still disk.before disk.after
