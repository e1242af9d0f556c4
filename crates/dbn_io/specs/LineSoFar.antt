-- What is kept of a line whose end isn't known yet.
use Rattle.std.specs.Prelude.{◌≡◌, ◌<◌, ◌≤◌, ℕ, Bool, List, ◌++◌, length, IsTrue, IsFalse}
use Rattle.dbn_io.specs.Window.{Unbroken}

-- the bytes of the line are these, or there are too many and they aren't kept
pub record Holds (kept : List ℕ) (is_long : Bool) (bytes : List ℕ) : Type 0 where
  pub long : IsTrue is_long → 65536 < length bytes
  pub short : IsFalse is_long → (kept ≡ bytes) × (length bytes ≤ 65536)

-- bytes in which no line ends were moved into the line
pub record Moved (kept : List ℕ) (is_long : Bool) (kept' : List ℕ) (is_long' : Bool) (part : List ℕ) : Type 0 where
  pub unbroken : Unbroken part
  pub holds : (bytes : List ℕ) → Holds kept is_long bytes → Holds kept' is_long' (bytes ++ part)
