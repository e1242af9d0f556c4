use Rattle.std.proofs.Common.{◌≤◌, ap, length, arith}
use Rattle.dbn_plan.proofs.AtomMade.{atom_past}
use Rattle.dbn_plan.proofs.atom.atom.Goals as goal

pub returns : goal.returns
returns g c =
    let past : length c.args.network.now.rels ≤ c.args.rel = omega (arith, ap length c.rels.ensures) in
    atom_past c.args.rel c.args.terms.now c.args.network.now c.nothing.new.network c.args.at.now.node c.args.at.now.labels c.in_ok-node.node c.in_ok-labels.labels past c.requires.ready c.in_ok-node.ensures c.in_ok-labels.ensures
