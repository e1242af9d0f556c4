use Rattle.dbn_network.proofs.WorkedLaws.{same_none, same_then}
use Rattle.dbn_network.proofs.tests.turn_many.Goals as goal

pub loop-init : goal.loop-init
loop-init c = same_none c.args.network.now c.requires

pub loop-preserved : goal.loop-preserved
loop-preserved c = same_then c.args.network.now c.loop.network c.turn.new.network c.loop.invariant c.in_ok-turn.ensures
