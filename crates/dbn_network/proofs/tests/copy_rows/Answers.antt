use Rattle.dbn_network.proofs.WorkedLaws.{same_none, same_then}
use Rattle.dbn_network.proofs.tests.copy_rows.Goals as goal

pub loop-row-init : goal.loop-row-init
loop-row-init g c = same_none c.args.to.now c.requires.to

pub loop-row-preserved : goal.loop-row-preserved
loop-row-preserved g c = same_then c.args.to.now c.loop-row.to c.turn.new.network c.loop-row.invariant c.in_ok-turn.ensures
