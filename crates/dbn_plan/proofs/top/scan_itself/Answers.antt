use Rattle.std.proofs.Common.{◌<◌, ap, sym, length, arith}
use Rattle.dbn_plan.proofs.TopLaws.{scan_finished}
use Rattle.dbn_plan.proofs.top.scan_itself.Goals as goal

pub returns-in-Some : goal.returns-in-Some
returns-in-Some g c =
    let there : c.args.rel < length c.args.network.now.rels = omega (arith, ap length c.rels.ensures) in
    scan_finished (g.P.Coder.cell_of c.args.coder.now) c.args.sources.now.consts c.args.form.now c.args.vars.now c.args.rel c.args.terms.now c.args.wanted.now c.args.network.now c.args.sources.now c.in-Some.scan.now c.requires.atom c.requires.open c.requires.sources there
    c.requires.ready (c.in_ok-is_whole.ensures c.if-not-branch.false) (sym c.in-Some.ensures.value) c.requires.wanted
