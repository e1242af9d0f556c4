-- What is said of bytes that an object of the outside holds, where it tells them: `None` tells nothing.
use Rattle.std.specs.Prelude.{◌≡◌, ℕ, ◌<◌, List, ◌++◌, length, Option, is_some}
use Rattle.std.specs.Io.KnownBytes.{Appends}

-- what is told stays told, and what is untold stays untold
abbrev pub SameTold : Option (List ℕ) → Option (List ℕ) → Type 0
SameTold old new = is_some new ≡ is_some old

-- a front of the bytes that are due was appended, all of them or fewer
abbrev pub AppendsFront : Option (List ℕ) → Option (List ℕ) → List ℕ → Type 0
AppendsFront old new due = (front : List ℕ) × (rest : List ℕ) × (due ≡ front ++ rest) × Appends old new front

-- a proper front of the bytes that are due was appended: something is missing
abbrev pub AppendsPart : Option (List ℕ) → Option (List ℕ) → List ℕ → Type 0
AppendsPart old new due = (front : List ℕ) × (rest : List ℕ) × (due ≡ front ++ rest) × (0 < length rest) × Appends old new front
