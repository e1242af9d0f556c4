-- Making a store where there is none.
use Rattle.std.specs.Prelude.{◌≡◌, ◌⊎◌, ℕ, ◌+◌, Bool, true, false, ◌&&◌, nat_le, List, Result, Ok, Err}
use Rattle.dbn_journal.specs.Making.{is_open}
use Rattle.dbn_keeper.specs.Files.{Folder, new_store}
use Rattle.dbn_keeper.specs.Files.Folder.{NotMade, Holds}
use Rattle.dbn_keeper.specs.declared.base.Base.{Base}
use Rattle.dbn_keeper.specs.declared.create.CreateFault.{CreateFault}
use Rattle.dbn_keeper.specs.declared.create.CreateFault.TheVariants.{Exists, Full, Failed, Memory}
use Rattle.dbn_keeper.specs.declared.opening.Opening.{Opening}
use Rattle.dbn_keeper.specs.declared.opening.Opening.TheVariants.{NotOpen}
use Rattle.dbn_io.specs.declared.trouble.Trouble.{Trouble}
use Rattle.dbn_io.specs.declared.trouble.Trouble.TheVariants.{Failed as FailedTrouble, Memory as MemoryTrouble}

-- while a file is made: the bytes of before, a file that isn't open, or the new one
abbrev pub IsMaking : List ℕ → List ℕ → List ℕ → Type 0
IsMaking bytes new file = (file ≡ bytes) ⊎ ((is_open file ≡ false) ⊎ (file ≡ new))

-- one of the two files is open
abbrev pub any_open : Opening → Opening → Bool
any_open NotOpen NotOpen = false
any_open first second = true

-- something is there already
abbrev pub is_made : Folder → Bool
is_made NotMade = false
is_made other = true

-- a text of this size, and a new file with it, end within the limits
abbrev pub is_allowed : ℕ → ℕ → ℕ → Bool
is_allowed net_bytes file_bytes size = nat_le size net_bytes && nat_le (34 + size) file_bytes

-- what an answer says of these two: whether something is there already, and whether the new store is allowed
abbrev pub Says : {T : Type 0} → Bool → Bool → Result T CreateFault → Type 0
Says made allowed (Ok value) = (made ≡ false) × (allowed ≡ true)
Says made allowed (Err Exists) = made ≡ true
Says made allowed (Err Full) = (made ≡ false) × (allowed ≡ false)
Says made allowed (Err Failed) = Unit {0}
Says made allowed (Err Memory) = Unit {0}

-- there is no store yet, or it is the new one
abbrev pub IsNoneOrNew : Base → Folder → Type 0
IsNoneOrNew base found = (found ≡ NotMade) ⊎ (found ≡ Holds (new_store 1 base))

-- trouble with a disk, as a reason why nothing was made
abbrev pub create_fault_of : Trouble → CreateFault
create_fault_of FailedTrouble = Failed
create_fault_of MemoryTrouble = Memory
