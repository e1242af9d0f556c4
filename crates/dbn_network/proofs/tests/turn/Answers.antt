use Rattle.std.proofs.Common.{◌∙◌, not, ap, sym, subst}
use Rattle.dbn_instance.specs.Facts.{changed, Fits as FitsNow}
use Rattle.dbn_network.specs.States.{with_feeds, change_at}
use Rattle.dbn_network.proofs.WorkedLaws.{turn_fits, turned_same}
use Rattle.dbn_network.proofs.tests.turn.Goals as goal

pub apply_one-requires-clause-fits : goal.apply_one-requires-clause-fits
apply_one-requires-clause-fits g c =
    subst (λ e. FitsNow g.C.Ord.cmp c.args.network.now.feeds (change_at c.args.relation e)) (sym c.new-event.ensures)
    (turn_fits g.C.Ord.cmp c.args.network.now c.args.relation c.args.row c.in_ok-there.there c.requires.ready c.requires.range c.in_ok-there.ensures.value)

pub returns : goal.returns
returns g c =
    turned_same g.C.Ord.cmp c.args.network.now c.apply_one.new.network c.args.relation c.args.row (not c.in_ok-there.there) c.requires.ready
    (c.in_ok-apply_one.ensures ∙ ap (λ e. with_feeds c.args.network.now (changed g.C.Ord.cmp c.args.network.now.feeds (change_at c.args.relation e))) c.new-event.ensures)
