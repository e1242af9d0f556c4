use Rattle.dbn_plan.proofs.RoomLaws.{unit_placed}
use Rattle.dbn_plan.proofs.TopLaws.{root_ready, rooted_plain}
use Rattle.dbn_plan.proofs.top.plain_behind.Goals as goal

pub compile_at-requires-clause-placed : goal.compile_at-requires-clause-placed
compile_at-requires-clause-placed g c = unit_placed c.args.network.now c.args.sources.now c.args.unit.now.node c.args.unit.now.labels c.requires.sources c.requires.unit c.requires.nothing

pub compile_at-requires-clause-ready : goal.compile_at-requires-clause-ready
compile_at-requires-clause-ready g c = root_ready (g.P.Coder.cell_of c.args.coder.now) c.args.network.now.rels c.args.form.now c.args.unit.now.labels c.requires.nothing c.requires.ready

pub returns : goal.returns
returns g c =
    rooted_plain (g.P.Coder.cell_of c.args.coder.now) c.args.sources.now.consts c.args.form.now c.args.network.now c.compile_at.new.network c.args.sources.now c.args.unit.now.node c.args.unit.now.labels
    c.in_ok-made.made.node c.in_ok-made.made.labels c.requires.sources c.requires.unit c.requires.nothing c.in_ok-made.ensures
