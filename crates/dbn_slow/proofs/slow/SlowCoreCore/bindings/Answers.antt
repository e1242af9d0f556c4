use Rattle.dbn_core.proofs.FitLaws.{stands_at}
use Rattle.dbn_slow.proofs.slow.SlowCoreCore.bindings.Goals as goal

pub bindings-requires-clause-stands : goal.bindings-requires-clause-stands
bindings-requires-clause-stands c = stands_at c.self.inside.net c.args.t c.transition_at.result.now c.decls-net.ensures.net c.transition_at.ensures.value
