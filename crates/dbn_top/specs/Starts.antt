-- What a verb starts from: the text of a net, or the store in two files.
use Rattle.std.specs.Prelude.{ℕ, ◌+◌, cond, nat_lt, Bool, true, false, List, length, Option, Some, None, Result, Ok, Err}
use Rattle.dbn_io.specs.declared.limits.Limits.{Limits}
use Rattle.dbn_net.specs.declared.fault.NetKind.{NetKind}
use Rattle.dbn_net.specs.Texts.{Start, Fault, reads}
use Rattle.dbn_keeper.specs.Files.{Store, Folder, folder}
use Rattle.dbn_keeper.specs.Files.Folder.{NotMade, NotAStore, Holds}
use Rattle.dbn_keeper.specs.declared.base.Base.{Base}
use Rattle.dbn_keeper.specs.declared.opening.Form.TheVariants.{Two}
use Rattle.dbn_store.specs.States.{Situation, situation, RunState, run_over}
use Rattle.dbn_store.specs.Folders.{Opened, opened}
use Rattle.dbn_store.specs.Folders.Opened.{IsNotMade, IsNoStore, IsDamaged, Stands}
use Rattle.dbn_engine.specs.Steps.{Terms, text_at}

-- ---- a net

-- the net of a text with its start snapshot, before any firing
abbrev pub started : Start → Situation
started start = situation start.decls (record { instance = start.facts; marking = start.tokens; next = start.next; fired = 0 })

-- by what a text is read as
abbrev pub by_reading : {T : Type 0} → (ℕ → NetKind → T) → (Situation → T) → Result Start Fault → T
by_reading faulty accepted (Ok start) = accepted (started start)
by_reading faulty accepted (Err fault) = faulty fault.line fault.kind

-- a net within the limits that is accepted, or what is due for another one
abbrev pub by_net : {T : Type 0} → Limits → List ℕ → T → (ℕ → NetKind → T) → (Situation → T) → T
by_net limits net over faulty accepted = cond (nat_lt limits.net_bytes (length net)) over (by_reading faulty accepted (reads net))

abbrev pub accepted_in : Limits → List ℕ → Option Situation
accepted_in limits net = by_net limits net None (λ line kind. None) (λ s. Some s)

-- the base of a new store for a net and a snapshot
abbrev pub base_of : Situation → Base
base_of s = record { fired = s.snapshot.fired; next = s.snapshot.next; text = text_at s }

-- ---- a run

-- the run in memory over the net of this text
abbrev pub run_in_memory : List ℕ → Situation → RunState
run_in_memory text s = record { now = s; form = Two; place = 33 + length text; generation = 1; records = 0; cap = None }

-- what a run is told at its start
abbrev pub terms_of : Limits → Option ℕ → Terms
terms_of limits every = record { net_bytes = limits.net_bytes; every = every }

-- ---- two files

pub data Found : Type 0 where
  -- no file is open
  NoFile : Found
  -- there is something else
  NoStore : Found
  -- what stands at the gate of this place is damaged
  Damage : ℕ → Found
  -- a store, and the run that it begins
  Runs : RunState → Found

abbrev pub found_over : ℕ → Store → Opened → Found
found_over cap store IsNotMade = NoFile
found_over cap store IsNoStore = NoStore
found_over cap store (IsDamaged place) = Damage place
found_over cap store (Stands s) = Runs (run_over cap s store)

-- what a folder begins whose files have at most `cap` bytes
unfoldable pub found_in : ℕ → Folder → Found
found_in cap NotMade = NoFile
found_in cap NotAStore = NoStore
found_in cap (Holds store) = found_over cap store (opened (Holds store))

-- what two files begin
abbrev pub found : Limits → List ℕ → List ℕ → Found
found limits a b = found_in limits.file_bytes (folder a b)

abbrev pub run_in : Found → Option RunState
run_in NoFile = None
run_in NoStore = None
run_in (Damage place) = None
run_in (Runs r) = Some r

abbrev pub is_there : {T : Type 0} → Option T → Bool
is_there None = false
is_there (Some x) = true
