use Rattle.dbn_net.specs.Tables.{relation_shapes}
use Rattle.dbn_core.proofs.FitLaws.{has_shapes}
use Rattle.dbn_slow.proofs.firing.test.Goals as goal

pub is_enabled-requires-clause-shapes : goal.is_enabled-requires-clause-shapes
is_enabled-requires-clause-shapes c = has_shapes c.args.at.now.instance (relation_shapes c.args.net.now) c.requires.good.facts_fit
