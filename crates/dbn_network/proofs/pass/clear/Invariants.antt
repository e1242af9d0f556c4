use Rattle.std.proofs.Common.{◌≡◌, ◌⊎◌, ℕ, [], length, drop, get_or}
use Rattle.dbn_value.specs.Members.{In}
use Rattle.dbn_network.proofs.pass.clear.Given as goal

abbrev pub invariant-loop-number : goal.invariant-loop-number
invariant-loop-number g l =
    (length l.made.items ≡ length l.fn.made.items)
    × ((i : ℕ) → (get_or l.fn.made.items i [] ≡ []) ⊎ In i l.walk → (get_or l.made.items i [] ≡ []) ⊎ In i (drop l.number-index l.walk))
