use Rattle.dbn_network.proofs.WorkedLaws.{lacking_fit_by, ready_more}
use Rattle.dbn_network.proofs.tests.add_lacking.Goals as goal

pub add_all-requires-clause-fit : goal.add_all-requires-clause-fit
add_all-requires-clause-fit g c = lacking_fit_by _ _ _ c.requires.ready.widths c.requires.nodes c.in_ok-lacking.ensures

pub returns-clause-ready : goal.returns-clause-ready
returns-clause-ready g c =
    let made = c.in_ok-add_all.ensures in
    ready_more c.args.network.now c.add_all.new.network c.in_ok-lacking.lacking.items c.requires.ready made.live made.nodes made.rels made.shapes made.feeds
