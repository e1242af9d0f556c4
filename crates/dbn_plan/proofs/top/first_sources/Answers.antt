use Rattle.std.proofs.Common.{◌≡◌, ap, length, arith}
use Rattle.dbn_formula.specs.Size.{size}
use Rattle.dbn_nodes.specs.declared.node.Node.TheVariants as node
use Rattle.dbn_plan.proofs.StepLaws.{open_after, grown_at}
use Rattle.dbn_plan.proofs.TopLaws.{no_scans, sourced_made}
use Rattle.dbn_plan.proofs.top.first_sources.Goals as goal

pub scan_each-requires-clause-open : goal.scan_each-requires-clause-open
scan_each-requires-clause-open g c = open_after c.args.network.now c.add.new.self (grown_at c.args.network.now c.add.new.self node.Unit c.in_ok-unit.ensures.ok) c.requires.open

pub scan_each-requires-clause-scans : goal.scan_each-requires-clause-scans
scan_each-requires-clause-scans g c = no_scans c.add.new.self c.new-scans.result c.new-scans.ensures.empty

pub returns-clause-made : goal.returns-clause-made
returns-clause-made g c =
    let empty : length c.new-rels.result ≡ 0 = ap length c.new-rels.ensures in
    let few = c.in_ok-add_relations.ensures in
    let seen : length c.as_slice.result.now ≡ length c.add_relations.new.out = ap length c.as_slice.ensures in
    sourced_made c.args.network.now c.add.new.self c.scan_each.new.network (record { unit = c.in_ok-unit.unit; scans = c.scan_each.new.scans; consts = c.args.consts }) (length c.as_slice.result.now) (size c.args.form.now)
    c.in_ok-unit.ensures.ok c.in_ok-unit.ensures.number (omega (arith, empty, few, seen)) c.in_ok-scan_each.ensures
