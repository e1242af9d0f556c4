use Rattle.std.proofs.Common.{◌≡◌, ◌++◌}
use Rattle.dbn_scratch.proofs.answering.listed.Given as goal

abbrev pub invariant-loop-row : goal.invariant-loop-row
invariant-loop-row l = l.rows ++ l.row-iterator ≡ l.fn.set.keys
