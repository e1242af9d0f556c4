use Rattle.dbn_plan.proofs.TopLaws.{scan_more}
use Rattle.dbn_plan.proofs.scans.scan_once.Goals as goal

pub returns : goal.returns
returns g c =
    scan_more c.args.network.now c.add.new.self c.args.scans.now c.insert.new.self c.args.rel c.in_ok-node.node c.requires.scans c.in_ok-node.ensures.ok c.in_ok-node.ensures.number c.in_ok-insert.ensures.updates.0
