-- What the readers of a header answer.
use Rattle.std.specs.Prelude.{◌≡◌, ℕ, ◌<◌, ◌≤◌, ◌^◌, true, cond, ◌&&◌, nat_le, nat_lt, List, length, Option, None, Some}
use Rattle.dbn_keeper.specs.Files.{number64, number32, first_gate_in, opening_of, has_base, base_of}
use Rattle.dbn_io.specs.declared.trouble.Trouble.{Trouble}
use Rattle.dbn_io.specs.declared.trouble.Trouble.TheVariants.{Failed as FailedTrouble, Memory as MemoryTrouble}
use Rattle.dbn_keeper.specs.declared.base.Base.{Base}
use Rattle.dbn_keeper.specs.declared.find.FindFault.{FindFault}
use Rattle.dbn_keeper.specs.declared.find.FindFault.TheVariants.{Failed, Memory}
use Rattle.dbn_keeper.specs.declared.header.Numbers.{Numbers}
use Rattle.dbn_keeper.specs.declared.opening.Form.{Form}
use Rattle.dbn_keeper.specs.declared.opening.Opening.{Opening}
use Rattle.dbn_keeper.specs.declared.opening.Opening.TheVariants.{NotOpen, Foreign, Marked}

-- a generation that was read is in its range
abbrev pub IsRanged : Opening → Type 0
IsRanged NotOpen = Unit {0}
IsRanged Foreign = Unit {0}
IsRanged (Marked form generation) = (1 ≤ generation) × (generation ≤ 2 ^ 62)

-- a text that was read is short
abbrev pub IsShort : Option Base → Type 0
IsShort None = Unit {0}
IsShort (Some base) = (length base.text < 2 ^ 32) × (base.fired ≤ 2 ^ 62) × (base.next ≤ 2 ^ 62)

-- numbers that were read are in their range
abbrev pub AreRanged : Option Numbers → Type 0
AreRanged None = Unit {0}
AreRanged (Some found) = (found.fired ≤ 2 ^ 62) × (found.next ≤ 2 ^ 62)

-- the numbers of a base, by the first thirty-three bytes of a file of this length
abbrev pub numbers_in : List ℕ → ℕ → Option Numbers
numbers_in front len = cond (nat_le 33 (length front) && (nat_lt (first_gate_in front) len && (nat_le (number64 13 front) (2 ^ 62) && nat_le (number64 21 front) (2 ^ 62)))) (Some (record { fired = number64 13 front; next = number64 21 front; size = number32 29 front })) None

-- the base of a file, where it has one
abbrev pub base_found : List ℕ → Option Base
base_found file = cond (has_base file) (Some (base_of file)) None

-- what was found in the chosen file
pub record HoldsBase (form : Form) (base : Base) (generation : ℕ) (file : List ℕ) : Type 0 where
  pub opening : opening_of file ≡ Marked form generation
  pub header : has_base file ≡ true
  pub base_is : base_of file ≡ base

-- trouble with a disk, as a reason why nothing was found
abbrev pub fault_of : Trouble → FindFault
fault_of FailedTrouble = Failed
fault_of MemoryTrouble = Memory
