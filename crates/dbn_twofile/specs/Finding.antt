-- Looking for a store in two files.
use Rattle.std.specs.Prelude.{◌≡◌, ◌⊎◌, ℕ, ◌≤◌, ◌^◌, Bool, true, false, cond, nat_le, List, Result, IsErrOf, IsTrue}
use Rattle.dbn_model.specs.Causes.{Rose}
use Rattle.dbn_disk.specs.Disk.{DiskState, Keeps}
use Rattle.dbn_keeper.specs.Files.{opening_of}
use Rattle.dbn_keeper.specs.Reading.{HoldsBase}
use Rattle.dbn_keeper.specs.TwoFiles.{gives_way}
use Rattle.dbn_keeper.specs.declared.base.Base.{Base}
use Rattle.dbn_keeper.specs.declared.opening.Form.{Form}
use Rattle.dbn_keeper.specs.declared.opening.Opening.{Opening}
use Rattle.dbn_keeper.specs.declared.opening.Opening.TheVariants.{NotOpen, Foreign, Marked}
use Rattle.dbn_twofile.specs.declared.look.Choice.{Choice}
use Rattle.dbn_twofile.specs.declared.look.Choice.TheVariants.{NoneOpen, NoStore, First, Second}

-- which file counts, by what both say
abbrev pub choice_of : Opening → Opening → Choice
choice_of NotOpen NotOpen = NoneOpen
choice_of NotOpen Foreign = NoStore
choice_of NotOpen (Marked form generation) = Second form generation
choice_of Foreign other = NoStore
choice_of (Marked form generation) NotOpen = First form generation
choice_of (Marked form generation) Foreign = NoStore
choice_of (Marked form generation) (Marked form' generation') = cond (nat_le generation' generation) (First form generation) (Second form' generation')

-- the generation of the file that counts is in its range
abbrev pub IsRangedChoice : Choice → Type 0
IsRangedChoice NoneOpen = Unit {0}
IsRangedChoice NoStore = Unit {0}
IsRangedChoice (First form generation) = (1 ≤ generation) × (generation ≤ 2 ^ 62)
IsRangedChoice (Second form generation) = (1 ≤ generation) × (generation ≤ 2 ^ 62)

-- what was found in the chosen file of the two, or in the other one
abbrev pub IsSide : Bool → Bool → Form → Base → ℕ → List ℕ → Type 0
IsSide true swapped form base generation file = HoldsBase form base generation file
IsSide false swapped form base generation file = gives_way swapped generation (opening_of file) ≡ true

-- what is held stays, and each image was one before
pub record OnlySynced (old new : DiskState) : Type 0 where
  pub same : new.content ≡ old.content
  pub images : IsTrue old.honest → (c : List ℕ) → new.image c → old.image c
  pub keeps : Keeps old new

-- no count falls, this failure comes only where one rose, and always where one rose
pub record HasCauseOfTwo {T E : Type 0} (failure : E) (a new_a b new_b : ℕ) (result : Result T E) : Type 0 where
  pub later_a : a ≤ new_a
  pub later_b : b ≤ new_b
  pub failed : IsErrOf result failure → Rose a new_a ⊎ Rose b new_b
  pub kept : (IsErrOf result failure → ⊥) → (new_a ≡ a) × (new_b ≡ b)
