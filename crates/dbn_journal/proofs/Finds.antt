-- What is found at a gate, by the first five bytes and those behind them.
use Rattle.std.proofs.Common.{◌≡◌, ℕ, Bool, true, false, cond, List, [], ◌∷◌, take, drop, ◌==◌, refl}
use Rattle.dbn_journal.specs.Records.{gate_in, open_gate}
use Rattle.dbn_journal.specs.Records.Found.{Shut}
use Rattle.dbn_journal.specs.Heads.{head_in, size_in, found_by}
use Rattle.dbn_journal.specs.declared.head.Head.{Head}
use Rattle.dbn_journal.specs.declared.head.Head.TheVariants.{Shut as ShutHead, Torn as TornHead}

shut_or : (is_open : Bool) (size : Head) (rest : List ℕ) → cond is_open (found_by size rest) Shut ≡ found_by (cond is_open size ShutHead) rest
shut_or true size rest = refl
shut_or false size rest = refl

pub found_is : (bytes : List ℕ) → gate_in bytes ≡ found_by (head_in (take 5 bytes)) (drop 5 bytes)
found_is [] = refl
found_is (gate ∷ []) = shut_or (gate == open_gate) TornHead []
found_is (gate ∷ a ∷ []) = shut_or (gate == open_gate) TornHead []
found_is (gate ∷ a ∷ b ∷ []) = shut_or (gate == open_gate) TornHead []
found_is (gate ∷ a ∷ b ∷ c ∷ []) = shut_or (gate == open_gate) TornHead []
found_is (gate ∷ a ∷ b ∷ c ∷ d ∷ rest) = shut_or (gate == open_gate) (size_in (a ∷ b ∷ c ∷ d ∷ [])) rest
