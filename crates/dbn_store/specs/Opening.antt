-- Opening a store body by body, and what its answers say.
use Rattle.std.specs.Prelude.{◌≡◌, ℕ, List, drop, Result, Ok, Err, IsErrOf}
use Rattle.dbn_keeper.specs.Files.{Store}
use Rattle.dbn_keeper.specs.Keeping.{KeeperState, NoneFalls, RoseIn}
use Rattle.dbn_store.specs.States.{Situation}
use Rattle.dbn_store.specs.Folders.{Opened, replayed}
use Rattle.dbn_store.specs.Folders.Opened.{IsNoStore, IsDamaged, Stands}
use Rattle.dbn_store.specs.declared.fault.StoreFault.{StoreFault}
use Rattle.dbn_store.specs.declared.fault.StoreFault.TheVariants.{NotAStore, Damaged, Failed, Memory}

-- what a keeper of this store has still to hand out, behind this situation
abbrev pub rest_of : KeeperState → Store → Situation → Opened
rest_of keeper store s = replayed keeper.form s.net keeper.place (drop keeper.records store.bodies) store.torn s.snapshot

-- what opening answers says what the folder stands for, unless a device failed or memory was wanting
abbrev pub Says : {X : Type 0} → (X → Situation) → Result X StoreFault → Opened → Type 0
Says view (Ok x) found = found ≡ Stands (view x)
Says view (Err NotAStore) found = found ≡ IsNoStore
Says view (Err (Damaged place)) found = found ≡ IsDamaged place
Says view (Err Failed) found = Unit {0}
Says view (Err Memory) found = Unit {0}

-- no count falls, a failure comes only where one rose, and none is passed over
pub record HasCauseOfStore {X : Type 0} (before now : List ℕ) (result : Result X StoreFault) : Type 0 where
  pub later : NoneFalls before now
  pub failed : IsErrOf result Failed → RoseIn before now
  pub kept : (IsErrOf result Failed → ⊥) → now ≡ before
