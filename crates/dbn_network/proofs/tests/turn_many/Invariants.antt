use Rattle.dbn_network.specs.Worked.{SameNodes}
use Rattle.dbn_network.proofs.tests.turn_many.Given as goal

abbrev pub invariant-loop : goal.invariant-loop
invariant-loop l = SameNodes l.network l.fn.network
