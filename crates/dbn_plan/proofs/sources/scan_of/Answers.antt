use Rattle.dbn_plan.proofs.AtomMade.{scan_fits, scan_made}
use Rattle.dbn_plan.proofs.sources.scan_of.Goals as goal

pub add-requires-clause-fits : goal.add-requires-clause-fits
add-requires-clause-fits g c = scan_fits c.args.network.now c.args.rel c.requires.open c.requires.range

pub returns : goal.returns
returns g c = scan_made c.args.network.now c.add.new.self c.args.rel c.in_ok-made.made c.in_ok-made.ensures.ok c.in_ok-made.ensures.number
