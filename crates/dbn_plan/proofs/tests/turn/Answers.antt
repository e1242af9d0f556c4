use Rattle.std.proofs.Common.{◌<◌, ◌∙◌, not, ap, sym, subst, length, arith}
use Rattle.dbn_instance.specs.Facts.{changed, Fits as FitsNow}
use Rattle.dbn_network.specs.States.{with_feeds, change_at}
use Rattle.dbn_plan.proofs.AtomMade.{scan_fits}
use Rattle.dbn_plan.proofs.TestedLaws.{tested_open, turn_fits, turned_tested, turned_more}
use Rattle.dbn_plan.proofs.tests.turn.Goals as goal

pub add-requires-clause-fits : goal.add-requires-clause-fits
add-requires-clause-fits g c =
    let there : c.args.relation < length c.args.network.now.rels = omega (arith, ap length c.rels.ensures) in
    scan_fits c.args.network.now c.args.relation (tested_open c.args.network.now c.requires.ready) there

pub apply_one-requires-clause-fits : goal.apply_one-requires-clause-fits
apply_one-requires-clause-fits g c =
    let there : c.args.relation < length c.args.network.now.rels = omega (arith, ap length c.rels.ensures) in
    subst (λ e. FitsNow g.C.Ord.cmp c.add.new.self.feeds (change_at c.args.relation e)) (sym c.new-event.ensures)
    (turn_fits g.C.Ord.cmp c.args.network.now c.add.new.self c.args.relation c.in_ok-scan.scan c.args.row c.in_ok-there.there c.in_ok-scan.ensures.ok c.in_ok-scan.ensures.number c.requires.ready there c.in_ok-there.ensures.value)

pub returns-clause-ready : goal.returns-clause-ready
returns-clause-ready g c =
    turned_tested g.C.Ord.cmp c.args.network.now c.add.new.self c.apply_one.new.network c.args.relation c.args.row (not c.in_ok-there.there) c.in_ok-scan.ensures.ok
    (c.in_ok-apply_one.ensures ∙ ap (λ e. with_feeds c.add.new.self (changed g.C.Ord.cmp c.add.new.self.feeds (change_at c.args.relation e))) c.new-event.ensures) c.requires.ready

pub returns-clause-more : goal.returns-clause-more
returns-clause-more g c =
    turned_more g.C.Ord.cmp c.args.network.now c.add.new.self c.apply_one.new.network c.args.relation c.args.row (not c.in_ok-there.there) c.in_ok-scan.ensures.ok
    (c.in_ok-apply_one.ensures ∙ ap (λ e. with_feeds c.add.new.self (changed g.C.Ord.cmp c.add.new.self.feeds (change_at c.args.relation e))) c.new-event.ensures)
