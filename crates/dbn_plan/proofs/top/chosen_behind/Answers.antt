use Rattle.std.proofs.Common.{refl, subst}
use Rattle.dbn_plan.specs.Making.{RoomMade}
use Rattle.dbn_plan.proofs.StepLaws.{open_after, sources_after}
use Rattle.dbn_plan.proofs.RoomLaws.{unit_placed}
use Rattle.dbn_plan.proofs.TopLaws.{body_ready, rooted_choice}
use Rattle.dbn_plan.proofs.top.chosen_behind.Goals as goal

pub compile_at-requires-clause-placed : goal.compile_at-requires-clause-placed
compile_at-requires-clause-placed g c = unit_placed c.args.network.now c.args.sources.now c.args.unit.now.node c.args.unit.now.labels c.requires.sources c.requires.unit c.requires.nothing

pub compile_at-requires-clause-ready : goal.compile_at-requires-clause-ready
compile_at-requires-clause-ready g c =
    body_ready (g.P.Coder.cell_of c.args.coder.now) c.args.network.now.rels _ c.args.vars.now c.args.body.now c.args.unit.now.labels refl c.requires.nothing c.requires.ready

pub with_room-requires-clause-open : goal.with_room-requires-clause-open
with_room-requires-clause-open g c = open_after c.args.network.now c.compile_at.new.network c.in_ok-inner.ensures.grown c.requires.open

pub with_room-requires-clause-sources : goal.with_room-requires-clause-sources
with_room-requires-clause-sources g c = sources_after c.args.network.now c.compile_at.new.network c.args.sources.now c.in_ok-inner.ensures.grown c.requires.sources

pub returns : goal.returns
returns g c =
    rooted_choice (g.P.Coder.cell_of c.args.coder.now) c.args.sources.now.consts c.args.vars.now c.args.body.now c.args.network.now c.compile_at.new.network c.with_room.new.network c.args.sources.now c.args.unit.now.node c.args.unit.now.labels
    c.in_ok-inner.inner.node c.in_ok-inner.inner.labels c.in_ok-node.node c.requires.sources c.requires.unit c.requires.nothing c.in_ok-inner.ensures
    (subst (λ vs. RoomMade g.P.Cell.Ord.cmp g.P.Cell.Cell.int_of (g.P.Coder.cell_of c.args.coder.now) c.args.sources.now.consts vs c.args.body.now c.compile_at.new.network c.with_room.new.network c.in_ok-inner.inner.node c.in_ok-inner.inner.labels c.in_ok-node.node) c.as_slice.ensures c.in_ok-node.ensures)
