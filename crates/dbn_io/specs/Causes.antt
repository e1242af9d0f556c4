-- What an answer of the outside says of the count of faults.
use Rattle.std.specs.Prelude.{◌≡◌, ℕ, ◌≤◌, Bool, true, false, Result, Ok, Err, IsErrOf}
use Rattle.dbn_model.specs.Causes.{Rose}
use Rattle.dbn_io.specs.declared.trouble.Trouble.{Trouble}
use Rattle.dbn_io.specs.declared.trouble.Trouble.TheVariants.{Failed, Memory}

-- the count never falls, and a failure comes only where it rose
pub record HasCause {T : Type 0} (before now : ℕ) (result : Result T Trouble) : Type 0 where
  pub later : before ≤ now
  pub failed : IsErrOf result Failed → Rose before now
  -- no failure is passed over
  pub kept : (IsErrOf result Failed → ⊥) → now ≡ before

-- whether an answer is a failure
abbrev pub is_failed : {T : Type 0} → Result T Trouble → Bool
is_failed (Ok value) = false
is_failed (Err Failed) = true
is_failed (Err Memory) = false
