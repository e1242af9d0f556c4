use Rattle.dbn_top.proofs.Pairs.{sides_of, over_sides}
use Rattle.dbn_top.proofs.opening.disks_of.Goals as goal

pub returns-clause-over : goal.returns-clause-over
returns-clause-over g c =
    over_sides _ _ _ _ _ (sides_of {X = g.row.D.Denot} (g.D.Disk.state) c.args.keeper.swapped c.args.keeper.chosen c.args.keeper.other c.into_disks.result.0 c.into_disks.result.1 c.into_disks.ensures.first c.into_disks.ensures.second)

pub returns-clause-all : goal.returns-clause-all
returns-clause-all g c = c.into_disks.ensures.images

pub returns-clause-settled : goal.returns-clause-settled
returns-clause-settled g c = c.into_disks.ensures.settled
