use Rattle.dbn_core.proofs.FitLaws.{stands_at}
use Rattle.dbn_slow.proofs.firing.fire.Goals as goal

pub test-requires-clause-stands : goal.test-requires-clause-stands
test-requires-clause-stands c = stands_at c.args.net.now c.args.t c.transition_at-transition.result.now c.decls-net.ensures.net c.transition_at-transition.ensures.value

pub make-requires-clause-stands : goal.make-requires-clause-stands
make-requires-clause-stands c = stands_at c.args.net.now c.args.t c.transition_at-transition.result.now c.decls-net.ensures.net c.transition_at-transition.ensures.value
