-- A disk that tells nothing.
use Rattle.std.specs.Prelude.{ℕ, false, None}
use Rattle.dbn_disk.specs.Disk.{DiskState}

-- it tells no bytes, promises nothing of crashes, and counts its faults
abbrev pub untold_state : ℕ → DiskState
untold_state faults = record { content = None; image = λ c. ⊥; since = λ t c. ⊥; clock = 0; honest = false; faults = faults }
