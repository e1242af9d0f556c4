use Rattle.std.proofs.Common.{◌<◌, length}
use Rattle.dbn_plan.specs.Tested.{IsTested}
use Rattle.dbn_plan.proofs.tests.turned.Given as goal

abbrev pub invariant-loop-text : goal.invariant-loop-text
invariant-loop-text l = IsTested l.network × (l.node < length l.network.nodes)
