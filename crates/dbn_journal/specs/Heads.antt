-- The gate and the length behind it, and what they say of a file.
use Rattle.std.specs.Prelude.{◌≡◌, ℕ, cond, ◌==◌, List, [], ◌∷◌, ◌+◌, length}
use Rattle.std.specs.Int.{w32, from_be_bytes}
use Rattle.dbn_journal.specs.Records.{Found, open_gate, body_in}
use Rattle.dbn_journal.specs.Records.Found.{Shut, Held, Torn}
use Rattle.dbn_journal.specs.declared.head.Head.{Head}
use Rattle.dbn_journal.specs.declared.head.Head.TheVariants.{Shut as ShutHead, Held as HeldHead, Torn as TornHead}
use Rattle.dbn_journal.specs.declared.gate.Gate.{Gate}
use Rattle.dbn_journal.specs.declared.gate.Gate.TheVariants.{Shut as ShutGate, Held as HeldGate, Torn as TornGate}

-- a length in four bytes
abbrev pub size_in : List ℕ → Head
size_in [] = TornHead
size_in (a ∷ []) = TornHead
size_in (a ∷ b ∷ []) = TornHead
size_in (a ∷ b ∷ c ∷ []) = TornHead
size_in (a ∷ b ∷ c ∷ d ∷ rest) = HeldHead (from_be_bytes w32 (a ∷ b ∷ c ∷ d ∷ []))

-- the first bytes from a gate on
abbrev pub head_in : List ℕ → Head
head_in [] = TornHead
head_in (gate ∷ rest) = cond (gate == open_gate) (size_in rest) ShutHead

-- what stands there, by the first bytes and those behind them
abbrev pub found_by : Head → List ℕ → Found
found_by ShutHead rest = Shut
found_by (HeldHead size) rest = body_in size rest
found_by TornHead rest = Torn

-- told or not, the next gate stands behind the body
abbrev pub IsNext : ℕ → Gate → Type 0
IsNext place ShutGate = Unit {0}
IsNext place (HeldGate body after) = after ≡ place + 5 + length body
IsNext place TornGate = Unit {0}

-- the answer for what was found at this place
abbrev pub gate_of : ℕ → Found → Gate
gate_of place Shut = ShutGate
gate_of place (Held body) = HeldGate body (place + 5 + length body)
gate_of place Torn = TornGate
