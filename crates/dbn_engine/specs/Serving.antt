-- What an engine means, and what serving one command leaves.
use Rattle.std.proofs.Common.{◌≡◌, ◌⊎◌, ℕ, ◌^◌, ◌≤◌, Bool, List, [], ◌++◌, Option, Some, Result, IsErrOf, IsTrue, ap, ◌∙◌}
use Rattle.std.specs.Io.KnownBytes.{Appends}
use Rattle.dbn_io.specs.declared.lines.Line.{Line}
use Rattle.dbn_io.specs.declared.lines.Line.TheVariants.{Bytes, Long, End}
use Rattle.dbn_io.specs.declared.trouble.Trouble.{Trouble}
use Rattle.dbn_io.specs.declared.trouble.Trouble.TheVariants as trouble
use Rattle.dbn_model.specs.Causes.{Rose}
use Rattle.dbn_model.specs.Lines as text
use Rattle.dbn_keeper.specs.Files.{Store, Folder}
use Rattle.dbn_keeper.specs.Files.Folder.{Holds}
use Rattle.dbn_keeper.specs.Keeping.{KeeperState, NoneFalls, RoseIn, IsSettled, BringsOnly}
use Rattle.dbn_store.specs.States.{Situation, RunState, run_state}
use Rattle.dbn_store.specs.Folders.{opened, situation_in, meaning}
use Rattle.dbn_store.specs.Folders.Opened.{Stands}
use Rattle.dbn_engine.specs.Steps.{Terms, step}
use Rattle.dbn_engine.specs.declared.fault.ServeFault.{ServeFault}
use Rattle.dbn_engine.specs.declared.fault.ServeFault.TheVariants.{Write, Disk, Memory}

-- all that an engine means at one moment
pub record EngineState : Type 1 where
  pub live : Bool
  pub terms : Terms
  pub run : RunState
  -- what its folder means
  pub keeper : KeeperState

abbrev pub engine_state : Bool → Terms → Situation → KeeperState → EngineState
engine_state live terms now keeper = record { live = live; terms = terms; run = run_state now keeper; keeper = keeper }

-- the core and the keeper are live, and stand for one net and one snapshot
pub record Joined (core_live : Bool) (now : Situation) (keeper : KeeperState) : Type 0 where
  pub core : IsTrue core_live
  pub keeper_live : IsTrue keeper.live
  pub end : IsTrue keeper.at_end
  pub last : keeper.last ≡ 2 ^ 62
  pub same : (store : Store) → keeper.held ≡ Some (Holds store) → opened (Holds store) ≡ Stands now

-- files that stand for this situation
abbrev pub StandsFor : Situation → Folder → Type 0
StandsFor s f = meaning f ≡ Some s

-- files that stand for the first or the second of two
abbrev pub StandsForEither : Situation → Situation → Folder → Type 0
StandsForEither before after f = (meaning f ≡ Some before) ⊎ (meaning f ≡ Some after)

-- where what is held is told, and the disks are honest: a crash leaves nothing new but files that stand for P
abbrev pub Brings : KeeperState → KeeperState → (Folder → Type 0) → Type 0
Brings old new P = (store : Store) → old.held ≡ Some (Holds store) → IsTrue old.honest → BringsOnly old new P

-- no checkpoint began
abbrev pub StaysSteady : KeeperState → KeeperState → Type 0
StaysSteady old new = (store : Store) → old.held ≡ Some (Holds store) → IsTrue old.honest → (t : List ℕ) → old.steady t → new.steady t

-- what a crash now leaves stands for this situation
abbrev pub AllStandNow : KeeperState → KeeperState → Situation → Type 0
AllStandNow old new s = (store : Store) → old.held ≡ Some (Holds store) → IsTrue old.honest → (f : Folder) → new.image f → StandsFor s f

-- what a crash since the start of the call left stands for one of two situations
abbrev pub EitherSince : KeeperState → KeeperState → Situation → Situation → Type 0
EitherSince old new before after = (store : Store) → old.held ≡ Some (Holds store) → IsTrue old.honest → (f : Folder) → new.since old.moment f → StandsForEither before after f

-- what a crash now leaves does
abbrev pub EitherNow : KeeperState → KeeperState → Situation → Situation → Type 0
EitherNow old new before after = (store : Store) → old.held ≡ Some (Holds store) → IsTrue old.honest → (f : Folder) → new.image f → StandsForEither before after f

-- no count of the disks falls, a failure comes only where one rose, and none is passed over
pub record HasDiskCause {X : Type 0} (before now : List ℕ) (result : Result X ServeFault) : Type 0 where
  pub later : NoneFalls before now
  pub failed : IsErrOf result Disk → RoseIn before now
  pub kept : (IsErrOf result Disk → ⊥) → now ≡ before

-- the same of the sink
pub record HasWriteCause {X : Type 0} (before now : ℕ) (result : Result X ServeFault) : Type 0 where
  pub later : before ≤ now
  pub failed : IsErrOf result Write → Rose before now
  pub kept : (IsErrOf result Write → ⊥) → now ≡ before

abbrev pub disk_fault : Trouble → ServeFault
disk_fault trouble.Failed = Disk
disk_fault trouble.Memory = Memory

abbrev pub line_of : Line → text.Line
line_of (Bytes bytes) = text.Text bytes
line_of Long = text.Long
line_of End = text.Text []

-- a command that was not served to its end: a front of its reply was written, at a fault of writing not all of it, at a fault of
-- a disk all or nothing. A crash now leaves the situation before the command or behind it; where all was written, or the fault is
-- one of writing, the one behind it.
pub record Stops (why : ServeFault) (old new : EngineState) (line : text.Line) (before after : Option (List ℕ)) : Type 0 where
  pub front : List ℕ
  pub rest : List ℕ
  pub reply : (step old.terms old.run line).reply ≡ front ++ rest
  pub wrote : Appends before after front
  pub write : why ≡ Write → rest ≡ [] → ⊥
  pub disk : why ≡ Disk → (front ≡ []) ⊎ (rest ≡ [])
  pub each : EitherNow old.keeper new.keeper old.run.now (step old.terms old.run line).next.now
  pub all : (why ≡ Write) ⊎ (rest ≡ []) → AllStandNow old.keeper new.keeper (step old.terms old.run line).next.now

-- it holds a store where it tells what it holds, and each image of it stands for the situation of its run
pub record IsAtRest (e : EngineState) : Type 0 where
  pub holds : (f : Folder) → e.keeper.held ≡ Some f → (store : Store) × (f ≡ Holds store)
  pub stands : AllStandNow e.keeper e.keeper e.run.now

-- each image of a live keeper stands for the situation of its core
pub stands_at_rest : (live : Bool) (s : Situation) (keeper : KeeperState) → Joined live s keeper → IsSettled keeper → AllStandNow keeper keeper s
stands_at_rest live s keeper joined settled store told honest f image = ap meaning (settled.image (Holds store) f told honest image) ∙ ap situation_in (joined.same store told)

pub at_rest : (live core_live : Bool) (terms : Terms) (s : Situation) (keeper : KeeperState) → Joined core_live s keeper → IsSettled keeper → IsAtRest (engine_state live terms s keeper)
at_rest live core_live terms s keeper joined settled = record {
  holds = λ f told. let is = settled.held f told in (record { form = keeper.form; base = keeper.base; generation = keeper.generation; bodies = is.0; torn = is.1 }, is.2);
  stands = stands_at_rest core_live s keeper joined settled;
}
