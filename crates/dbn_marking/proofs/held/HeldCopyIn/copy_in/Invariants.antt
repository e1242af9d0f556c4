use Rattle.std.proofs.Common.{◌≡◌, ◌++◌}
use Rattle.dbn_marking.proofs.held.HeldCopyIn.copy_in.Given as goal

abbrev pub invariant-loop-row : goal.invariant-loop-row
invariant-loop-row g l = l.rows.entries ++ l.row-iterator ≡ l.self
