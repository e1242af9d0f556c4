use Rattle.dbn_plan.specs.Meaning.{vars_of}
use Rattle.dbn_plan.proofs.RoomLaws.{unit_placed}
use Rattle.dbn_plan.proofs.DeniedLaws.{alone_ready}
use Rattle.dbn_plan.proofs.referring.denied_rows.Goals as goal

pub compile_at-requires-clause-placed : goal.compile_at-requires-clause-placed
compile_at-requires-clause-placed g c = unit_placed c.args.network.now c.args.sources.now c.args.unit.now.node c.args.unit.now.labels c.requires.sources c.requires.unit c.requires.nothing

pub compile_at-requires-clause-ready : goal.compile_at-requires-clause-ready
compile_at-requires-clause-ready g c =
    alone_ready (g.P.Coder.cell_of c.args.coder.now) c.args.network.now.rels c.args.network.now.rels c.args.right.now (vars_of c.args.first.now.labels) c.args.vars.now c.args.unit.now.labels c.requires.nothing
    (c.in_ok-is_solved_alone.ensures c.if-branch.true) c.requires.ready
