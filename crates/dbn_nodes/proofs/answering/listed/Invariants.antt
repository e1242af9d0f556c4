use Rattle.std.proofs.Common.{◌≡◌, ◌++◌}
use Rattle.dbn_nodes.proofs.answering.listed.Given as goal

abbrev pub invariant-loop-row : goal.invariant-loop-row
invariant-loop-row g l = l.rows ++ l.row-iterator ≡ l.set.keys
