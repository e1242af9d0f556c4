-- What a call of the parser returns, against what the definition gives.
use Rattle.std.specs.Prelude.{◌≡◌, Option, Some, None, Result, Ok, Err}
use Rattle.dbn_reader.specs.declared.misfit.Misfit.{Misfit}
use Rattle.dbn_reader.specs.declared.misfit.Misfit.TheVariants.{Shape, Memory}

-- nothing is made exactly where the definition gives nothing; want of memory is free
abbrev pub Misses : {A : Type 0} → Misfit → Option A → Type 0
Misses Shape read = read ≡ None
Misses Memory read = Unit {0}

abbrev pub Parses : {A : Type 0} → Result A Misfit → Option A → Type 0
Parses (Ok x) read = read ≡ Some x
Parses (Err misfit) read = Misses misfit read

-- the same of a call that leads from a state to another one
abbrev pub ParsesOn : {A U : Type 0} → Result U Misfit → A → Option A → Type 0
ParsesOn (Ok u) state read = read ≡ Some state
ParsesOn (Err misfit) state read = Misses misfit read
