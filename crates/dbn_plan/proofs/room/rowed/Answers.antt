use Rattle.std.proofs.Common.{◌∙◌}
use Rattle.dbn_plan.proofs.StepLaws.{open_after}
use Rattle.dbn_plan.proofs.RoomLaws.{rowed_fits, rowed_made}
use Rattle.dbn_plan.proofs.room.rowed.Goals as goal

pub add-requires-clause-live : goal.add-requires-clause-live
add-requires-clause-live g c = (open_after c.args.network.now c.scan_of.new.network c.in_ok-scan.ensures.grown c.requires.open).live

pub add-requires-clause-fits : goal.add-requires-clause-fits
add-requires-clause-fits g c = rowed_fits c.args.network.now c.scan_of.new.network c.args.rel c.in_ok-scan.scan c.from_vec-cols.result c.in_ok-scan.ensures (c.from_vec-cols.ensures ∙ c.new.ensures.items)

pub returns : goal.returns
returns g c =
    rowed_made g.P.Cell.Ord.cmp g.P.Cell.Cell.int_of (g.P.Coder.cell_of c.args._coder.now) c.args.sources.now.consts c.args.rel c.args.network.now c.scan_of.new.network c.add.new.self c.in_ok-scan.scan c.from_vec-cols.result c.in_ok-made.made
    c.requires.open c.requires.range c.in_ok-scan.ensures (c.from_vec-cols.ensures ∙ c.new.ensures.items) c.in_ok-made.ensures.ok c.in_ok-made.ensures.number
