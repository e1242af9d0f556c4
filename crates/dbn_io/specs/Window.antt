-- The bytes of a source that were read and not yet used.
use Rattle.std.specs.Prelude.{◌≡◌, ℕ, ◌+◌, Bool, true, false, ◌==◌, List, [], ◌∷◌, ◌++◌, length, All, Option}
use Rattle.std.specs.Io.KnownBytes.{prepend_known}

-- the bytes that were read and not yet used, how many more may be read, and whether a read gave none
pub record Window : Type 0 where
  pub held : List ℕ
  pub unread : ℕ
  pub at_end : Bool

-- how many bytes the lines to come may have in all, with their ends
abbrev pub allowed : Window → ℕ
allowed window = length window.held + window.unread

-- the bytes of the lines to come: those held, and then those left in the source, where they are told
abbrev pub to_come : Window → Option (List ℕ) → Option (List ℕ)
to_come window left = prepend_known window.held left

-- no line ends in these bytes
abbrev pub Unbroken : List ℕ → Type 0
Unbroken bytes = All (λ byte. (byte == 10) ≡ false) bytes

-- these bytes were used: the next line feed behind them too where the line ended, and all bytes that were held otherwise
abbrev pub Moves : Bool → Window → Window → List ℕ → Type 0
Moves true before now part = before.held ≡ part ++ 10 ∷ now.held
Moves false before now part = (before.held ≡ part) × (now.held ≡ [])
