use Rattle.std.proofs.Common.{◌∙◌, ◌++◌, ap}
use Rattle.dbn_network.proofs.WorkedLaws.{ready_scans}
use Rattle.dbn_network.proofs.tests.with_scans.Goals as goal

pub returns-clause-ready : goal.returns-clause-ready
returns-clause-ready g c =
    let made = c.in_ok-add_all.ensures in
    ready_scans c.in_ok-relations.relations c.new-places.result c.in_ok-network.network c.add_all.new.network c.in_ok-network.ensures c.new-places.ensures c.in_ok-relations.ensures
    made.live (made.nodes ∙ ap (λ ns. c.in_ok-network.network.nodes ++ ns) c.in_ok-scans.ensures) made.rels made.shapes made.feeds
