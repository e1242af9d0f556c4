use Rattle.dbn_network.specs.Worked.{SameNodes}
use Rattle.dbn_network.proofs.tests.copy_rows.Given as goal

abbrev pub invariant-loop-row : goal.invariant-loop-row
invariant-loop-row g l = SameNodes l.to l.fn.to
