-- A keeper over two disks, and what it leaves of them.
use Rattle.std.specs.Prelude.{◌≡◌, ℕ, List, [], ◌∷◌, Some, is_some, IsTrue}
use Rattle.dbn_disk.specs.Disk.{DiskState}
use Rattle.dbn_keeper.specs.Files.{Folder, folder}
use Rattle.dbn_keeper.specs.Keeping.{KeeperState}
use Rattle.dbn_keeper.specs.declared.find.FindFault.{FindFault}
use Rattle.dbn_keeper.specs.declared.find.FindFault.TheVariants as found
use Rattle.dbn_engine.specs.declared.run_end.RunEnd.{RunEnd}
use Rattle.dbn_engine.specs.declared.run_end.RunEnd.TheVariants as end
use Rattle.dbn_top.specs.declared.status.Status.{Status}
use Rattle.dbn_top.specs.declared.status.Status.TheVariants as status
use Rattle.dbn_top.specs.declared.opening.OpenFault.{OpenFault}
use Rattle.dbn_top.specs.declared.opening.OpenFault.TheVariants as fault
use Rattle.dbn_top.specs.Endings.{both_told, both_honest}
use Rattle.dbn_top.specs.Starts.{Found}
use Rattle.dbn_top.specs.Starts.Found.{NoFile, NoStore, Damage}

-- what the keeper holds is what the two files on these disks stand for
pub record IsOver (keeper : KeeperState) (a b : DiskState) : Type 0 where
  pub told : is_some keeper.held ≡ both_told a b
  pub honest : keeper.honest ≡ both_honest a b
  pub faults : keeper.faults ≡ a.faults ∷ b.faults ∷ []
  pub bytes : keeper.bytes ≡ a.content ∷ b.content ∷ []
  pub held : (x y : List ℕ) → a.content ≡ Some x → b.content ≡ Some y → keeper.held ≡ Some (folder x y)

-- each pair of images of the disks is an image of the keeper
abbrev pub ShowsAll : KeeperState → DiskState → DiskState → Type 0
ShowsAll keeper a b = (x y : List ℕ) → a.image x → b.image y → keeper.image (folder x y)

-- each image of the keeper is a pair of images of the disks
abbrev pub ShowsOnly : KeeperState → DiskState → DiskState → Type 0
ShowsOnly keeper a b = IsTrue (both_honest a b) → (f : Folder) → keeper.image f → ((x : List ℕ) × (y : List ℕ) × a.image x × b.image y × (folder x y ≡ f))

-- why two files begin no run
abbrev pub IsWhy : OpenFault → Found → Type 0
IsWhy fault.NotMade begun = begun ≡ NoFile
IsWhy fault.NotAStore begun = begun ≡ NoStore
IsWhy (fault.Damaged place) begun = begun ≡ Damage place
IsWhy fault.Failed begun = Unit {0}
IsWhy fault.Memory begun = Unit {0}

-- the status of a call that ends with it
abbrev pub status_of_fault : OpenFault → Status
status_of_fault fault.NotMade = status.Store
status_of_fault fault.NotAStore = status.Store
status_of_fault (fault.Damaged place) = status.Store
status_of_fault fault.Failed = status.DiskFault
status_of_fault fault.Memory = status.Memory

abbrev pub status_of_end : RunEnd → Status
status_of_end end.Done = status.Done
status_of_end end.ReadFault = status.ReadFault
status_of_end end.WriteFault = status.WriteFault
status_of_end end.DiskFault = status.DiskFault
status_of_end end.InputLimit = status.InputLimit
status_of_end end.Memory = status.Memory

abbrev pub fault_of_finding : FindFault → OpenFault
fault_of_finding found.NotMade = fault.NotMade
fault_of_finding found.NotAStore = fault.NotAStore
fault_of_finding found.Failed = fault.Failed
fault_of_finding found.Memory = fault.Memory
