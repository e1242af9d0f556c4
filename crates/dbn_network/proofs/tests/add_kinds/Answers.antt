use Rattle.dbn_network.proofs.WorkedLaws.{others_fit_by, ready_more}
use Rattle.dbn_network.proofs.tests.add_kinds.Goals as goal

pub add_all-requires-clause-fit : goal.add_all-requires-clause-fit
add_all-requires-clause-fit g c = others_fit_by _ _ _ c.requires.ready.widths c.requires.nodes c.in_ok-others.ensures

pub returns-clause-ready : goal.returns-clause-ready
returns-clause-ready g c =
    let made = c.in_ok-add_all.ensures in
    ready_more c.args.network.now c.add_all.new.network c.in_ok-others.others.items c.requires.ready made.live made.nodes made.rels made.shapes made.feeds
