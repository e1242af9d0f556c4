-- What a crash now may leave of both disks.
use Rattle.std.specs.Prelude.{◌≡◌, ◌⊎◌, ℕ, ◌+◌, Bool, true, false, ◌&&◌, ◌||◌, not, List, ◌++◌, length, take, Option, None, Some, IsTrue}
use Rattle.std.specs.Io.KnownBytes.{Appends}
use Rattle.dbn_model.specs.Lines.{Line, due_lines}
use Rattle.dbn_model.specs.Runs.{state_after, replies, answered}
use Rattle.dbn_disk.specs.Disk.{Only}
use Rattle.dbn_io.specs.declared.limits.Limits.{Limits}
use Rattle.dbn_value.specs.declared.member.Member.{Member}
use Rattle.dbn_keeper.specs.Creating.{is_made}
use Rattle.dbn_keeper.specs.Files.{Folder, folder, new_store}
use Rattle.dbn_keeper.specs.Files.Folder.{NotMade, NotAStore, Holds}
use Rattle.dbn_store.specs.States.{Situation, RunState}
use Rattle.dbn_store.specs.Folders.{meaning}
use Rattle.dbn_engine.specs.Steps.{Terms, step}
use Rattle.dbn_top.specs.declared.verb.Verb.{Verb}
use Rattle.dbn_top.specs.declared.verb.Verb.TheVariants.{Check, Try, New, Run, Dump, Demo}
use Rattle.dbn_top.specs.declared.status.Status.{Status}
use Rattle.dbn_top.specs.declared.status.Status.TheVariants as status
use Rattle.dbn_top.specs.Calls.{Stream, Device, Call, Given}
use Rattle.dbn_top.specs.Due.{reached}
use Rattle.dbn_top.specs.Endings.{TouchesDisks, both_honest}
use Rattle.dbn_top.specs.Groups.{groups_of, StandsBehind}
use Rattle.dbn_top.specs.Starts.{accepted_in, base_of, terms_of, found, run_in, is_there}
use Rattle.dbn_top.specs.Starts.Found.{Runs}

-- ---- a run

-- after which line the files may stand, where so many replies were written whole
abbrev pub StandsAfter : Status → ℕ → ℕ → Type 0
StandsAfter status.Done acknowledged n = n ≡ acknowledged
StandsAfter status.Usage acknowledged n = ⊥
StandsAfter status.Net acknowledged n = ⊥
StandsAfter status.Store acknowledged n = ⊥
StandsAfter status.ReadFault acknowledged n = n ≡ acknowledged
StandsAfter status.WriteFault acknowledged n = n ≡ acknowledged + 1
StandsAfter status.DiskFault acknowledged n = (n ≡ acknowledged) ⊎ (n ≡ acknowledged + 1)
StandsAfter status.InputLimit acknowledged n = n ≡ acknowledged
StandsAfter status.Memory acknowledged n = (n ≡ acknowledged) ⊎ (n ≡ acknowledged + 1)

-- files that stand for what was found at opening, followed by the groups of the first lines, each with all its members. These
-- are no fewer lines than were acknowledged.
pub record StandsFront (ended : Status) (terms : Terms) (r : RunState) (lines : List Line) (written x y : List ℕ) : Type 0 where
  pub n : ℕ
  pub after : StandsAfter ended (answered (replies (step terms) r lines) (length written)) n
  pub stands : StandsBehind r.now (groups_of terms r (take n lines)) (folder x y)

-- the same, said of the groups alone: what was found at opening, followed by a front of the groups that holds every acknowledged
-- one
pub record IsFrontOfGroups (terms : Terms) (r : RunState) (lines : List Line) (written x y : List ℕ) : Type 0 where
  pub fired : List (List Member)
  pub rest : List (List Member)
  pub more : List (List Member)
  pub front : groups_of terms r lines ≡ fired ++ rest
  pub acknowledged : fired ≡ groups_of terms r (take (answered (replies (step terms) r lines) (length written)) lines) ++ more
  pub stands : StandsBehind r.now fired (folder x y)

-- whatever files a crash now leaves, they stand for such a front
pub record IsPrefix (ended : Status) (terms : Terms) (r : RunState) (lines : List Line) (out : Stream) (a b : Device) : Type 0 where
  pub written : List ℕ
  pub wrote : Appends out.bytes out.bytes_after written
  pub each : (x y : List ℕ) → a.after.image x → b.after.image y → StandsFront ended terms r lines written x y

-- what is held is settled, and is the run after all lines, with its place, its generation and its records
pub record IsFinished (limits : Limits) (terms : Terms) (r : RunState) (lines : List Line) (a b : Device) : Type 0 where
  pub x : List ℕ
  pub y : List ℕ
  pub a_held : a.after.content ≡ Some x
  pub b_held : b.after.content ≡ Some y
  pub a_settled : Only x a.after.image
  pub b_settled : Only y b.after.image
  pub stands : found limits x y ≡ Runs (state_after (step terms) r lines)

abbrev pub RunLeaves : Status → Limits → Terms → RunState → List Line → Stream → Device → Device → Type 0
RunLeaves ended limits terms r lines out a b = IsPrefix ended terms r lines out a b × (ended ≡ status.Done → IsFinished limits terms r lines a b)

-- ---- a new store

-- the store of this net and snapshot, of generation 1 and without a record
abbrev pub IsInitial : Situation → List ℕ → List ℕ → Type 0
IsInitial s x y = (folder x y ≡ Holds (new_store 1 (base_of s))) × (meaning (folder x y) ≡ Some s)

pub record IsNew (ended : Status) (s : Situation) (a b : Device) : Type 0 where
  pub each : (x y : List ℕ) → a.after.image x → b.after.image y → (folder x y ≡ NotMade) ⊎ IsInitial s x y
  pub done : ended ≡ status.Done → (x y : List ℕ) × (a.after.content ≡ Some x) × (b.after.content ≡ Some y) × Only x a.after.image × Only y b.after.image × IsInitial s x y

-- ---- by the verb

-- for `run` where there is one, and for `new` where the net is accepted and no file is open
abbrev pub CrashOf : Status → Option Verb → Call → Device → Device → Given → Type 0
CrashOf ended None call a b given = Unit {0}
CrashOf ended (Some Check) call a b given = Unit {0}
CrashOf ended (Some Try) call a b given = Unit {0}
CrashOf ended (Some New) call a b given = (s : Situation) → accepted_in call.limits given.net ≡ Some s → is_made (folder given.a given.b) ≡ false → IsNew ended s a b
CrashOf ended (Some (Run every)) call a b given = (r : RunState) → found call.limits given.a given.b ≡ Runs r
    → RunLeaves ended call.limits (terms_of call.limits every) r (due_lines call.limits.input_bytes given.commands) call.out a b
CrashOf ended (Some Dump) call a b given = Unit {0}
CrashOf ended (Some (Demo size)) call a b given = Unit {0}

abbrev pub Crash : Status → Call → Device → Device → Given → Type 0
Crash ended call a b given = CrashOf ended call.verb call a b given

-- ---- what is spared

abbrev pub is_store : Folder → Bool
is_store NotMade = false
is_store NotAStore = false
is_store (Holds store) = true

-- whether a call is due to write to the disks
abbrev pub writes_disks : Limits → Option Verb → Given → Bool
writes_disks limits None given = false
writes_disks limits (Some Check) given = false
writes_disks limits (Some Try) given = false
writes_disks limits (Some New) given = is_there (accepted_in limits given.net) && not (is_made (folder given.a given.b))
writes_disks limits (Some (Run every)) given = is_there (run_in (found limits given.a given.b))
writes_disks limits (Some Dump) given = false
writes_disks limits (Some (Demo size)) given = false

-- what is held stays, and a crash leaves nothing that it could not leave before
pub record IsKept (disk : Device) : Type 0 where
  pub content : disk.after.content ≡ disk.before.content
  pub image : IsTrue disk.before.honest → (bytes : List ℕ) → disk.after.image bytes → disk.before.image bytes

-- the bytes that are held stay, and a crash leaves nothing that stands for anything else than before
pub record Stays (a b : Device) : Type 0 where
  pub first : a.after.content ≡ a.before.content
  pub second : b.after.content ≡ b.before.content
  pub image : IsTrue (both_honest a.before b.before) → (u v : List ℕ) → a.after.image u → b.after.image v
      → (x : List ℕ) × (y : List ℕ) × a.before.image x × b.before.image y × (folder x y ≡ folder u v)

-- whether a call is due to leave the bytes of both files as they are: it writes nothing, and no store is read
abbrev pub keeps_bytes : Limits → Option Verb → Given → Bool
keeps_bytes limits None given = true
keeps_bytes limits (Some Check) given = true
keeps_bytes limits (Some Try) given = true
keeps_bytes limits (Some New) given = not (is_there (accepted_in limits given.net)) || is_made (folder given.a given.b)
keeps_bytes limits (Some (Run every)) given = not (is_store (folder given.a given.b))
keeps_bytes limits (Some Dump) given = not (is_store (folder given.a given.b))
keeps_bytes limits (Some (Demo size)) given = true

-- what is not reached is idle, and what is not written to stays
pub record Spares (ended : Status) (call : Call) (a b : Device) (given : Given) : Type 0 where
  pub order : TouchesDisks (reached call.limits call.verb given) ended a b
  pub stays : writes_disks call.limits call.verb given ≡ false → Stays a b
  pub bytes : keeps_bytes call.limits call.verb given ≡ true → IsKept a × IsKept b
