use Rattle.std.proofs.Common.{◌≡◌, ◌≤◌, ◌-◌, ℕ, length}
use Rattle.dbn_disk.proofs.opened.read_up_to_end.Given as goal

pub record Reading (full size count : ℕ) : Type 0 where
  pub same : size ≡ full
  pub within : count ≤ size

abbrev pub invariant-loop-count : goal.invariant-loop-count
invariant-loop-count l = Reading (length l.initial.into) (length l.into) l.count

abbrev pub decreases-loop-count : goal.decreases-loop-count
decreases-loop-count l = length l.initial.into - l.count
