-- What is left in a source where reading it whole was given up.
use Rattle.std.specs.Prelude.{◌≡◌, ℕ, ◌+◌, ◌≤◌, List, length, Option}
use Rattle.std.specs.Io.KnownBytes.{Consumes}
use Rattle.dbn_io.specs.declared.take.ReadStop.{ReadStop}
use Rattle.dbn_io.specs.declared.take.ReadStop.TheVariants.{Failed, Over, Memory}

-- how many bytes may have been taken: one more than `most` where there are more, and no more than `most` otherwise
abbrev pub MayTake : ReadStop → ℕ → ℕ → Type 0
MayTake Over most count = count ≡ most + 1
MayTake Failed most count = count ≤ most
MayTake Memory most count = count ≤ most

-- some first bytes were taken, as many as may be
abbrev pub Stopped : ReadStop → ℕ → Option (List ℕ) → Option (List ℕ) → Type 0
Stopped why most old new = (front : List ℕ) × Consumes old new front × MayTake why most (length front)
