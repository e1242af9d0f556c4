use Rattle.dbn_plan.proofs.TestedLaws.{tested_new}
use Rattle.dbn_plan.proofs.tests.network_over.Goals as goal

pub returns : goal.returns
returns c = tested_new c.in_ok-rels.rels c.new-places.result c.in_ok-network.network c.new-places.ensures c.in_ok-network.ensures
