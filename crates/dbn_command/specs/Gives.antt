-- Readings that may end in a fault, and what a call returns against what reading gives.
use Rattle.std.specs.Prelude.{◌≡◌, List, [], ◌∷◌, Option, Some, None, Result, Ok, Err}
use Rattle.dbn_command.specs.declared.fault.LineFault.{LineFault}
use Rattle.dbn_command.specs.declared.fault.LineFault.TheVariants.{Line, Unknown, Shape, Memory}

infixl 10 ◌>>=◌
abbrev pub ◌>>=◌ : {A B : Type 0} → Result A LineFault → (A → Result B LineFault) → Result B LineFault
(Ok x) >>= f = f x
(Err fault) >>= f = Err fault

-- what reading gives of each, or the first fault
unfoldable pub each : {A B : Type 0} → (A → Result B LineFault) → List A → Result (List B) LineFault
each read [] = Ok []
each read (x ∷ xs) = do
  first ← read x
  others ← each read xs
  Ok (first ∷ others)

abbrev pub found_or : {A : Type 0} → LineFault → Option A → Result A LineFault
found_or fault None = Err fault
found_or fault (Some x) = Ok x

-- an error is the fault that reading gives, or want of memory
abbrev pub Fails : {A : Type 0} → LineFault → Result A LineFault → Type 0
Fails Line read = read ≡ Err Line
Fails (Unknown name) read = read ≡ Err (Unknown name)
Fails Shape read = read ≡ Err Shape
Fails Memory read = Unit {0}

-- what a call returned is what reading gives, unless memory was wanting
abbrev pub Gives : {A : Type 0} → Result A LineFault → Result A LineFault → Type 0
Gives (Ok x) read = read ≡ Ok x
Gives (Err fault) read = Fails fault read

-- the same of what a call returned, seen by a view
abbrev pub GivesAs : {X A : Type 0} → (X → A) → Result X LineFault → Result A LineFault → Type 0
GivesAs view (Ok x) read = read ≡ Ok (view x)
GivesAs view (Err fault) read = Fails fault read
