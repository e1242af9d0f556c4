-- What is due to be written, and what was.
use Rattle.std.specs.Prelude.{◌≡◌, ℕ, Bool, true, false, List, [], ◌++◌}
use Rattle.std.specs.Io.KnownBytes.{Appends}
use Rattle.dbn_top.specs.declared.status.Status.{Status}
use Rattle.dbn_top.specs.declared.status.Status.TheVariants as status
use Rattle.dbn_top.specs.Calls.{Stream}

-- how a call is due to end, and what is due to be written
pub record Declared : Type 0 where
  pub status : Status
  pub text : List ℕ

abbrev pub due : Status → List ℕ → Declared
due status text = record { status = status; text = text }

-- whether a status breaks a call off; the others end it by themselves
abbrev pub is_broken_off : Status → Bool
is_broken_off status.Done = false
is_broken_off status.Usage = false
is_broken_off status.Net = false
is_broken_off status.Store = false
is_broken_off status.ReadFault = true
is_broken_off status.WriteFault = true
is_broken_off status.DiskFault = true
is_broken_off status.InputLimit = false
is_broken_off status.Memory = true

-- a front of the declared text was written; unless the call was broken off, all of it, and the status is the declared one
pub record Writes (ended : Status) (due : Declared) (out : Stream) : Type 0 where
  pub written : List ℕ
  pub rest : List ℕ
  pub wrote : Appends out.bytes out.bytes_after written
  pub front : due.text ≡ written ++ rest
  pub whole : is_broken_off ended ≡ false → (ended ≡ due.status) × (rest ≡ [])
