use Rattle.std.proofs.Common.{◌≡◌, [], sym, subst}
use Rattle.dbn_formula.specs.Free.{occurrences}
use Rattle.dbn_formula.specs.Variables.{firsts}
use Rattle.dbn_formula.specs.declared.formula.Formula.TheVariants.{And, Exists}
use Rattle.dbn_plan.specs.Meaning.{vars_of}
use Rattle.dbn_plan.specs.Making.{Placed, IsReady, WithVars, RoomMade}
use Rattle.dbn_plan.specs.Answering.{Rooted}
use Rattle.dbn_plan.specs.Referring.{Difference}
use Rattle.dbn_plan.proofs.StepLaws.{open_after, placed_after, sources_after, grown_then}
use Rattle.dbn_plan.proofs.RoomLaws.{unit_placed}
use Rattle.dbn_plan.proofs.ReferringLaws.{left_ready, right_ready, right_within, wanted_in, referring_made}
use Rattle.dbn_plan.proofs.referring.difference_rows.Goals as goal

pub all_parts-requires-clause-ready : goal.all_parts-requires-clause-ready
all_parts-requires-clause-ready g c = subst (λ ls. IsReady (g.P.Coder.cell_of c.args.coder.now) c.args.network.now.rels (vars_of ls) (And c.args.front.now)) (sym c.requires.nothing) (left_ready (g.P.Coder.cell_of c.args.coder.now) c.args.network.now.rels c.args.vars.now c.args.front.now c.args.right.now (subst (λ b. IsReady (g.P.Coder.cell_of c.args.coder.now) c.args.network.now.rels [] (Exists c.args.vars.now b)) c.requires.parts.is c.requires.ready))

pub compile_at-requires-clause-open : goal.compile_at-requires-clause-open
compile_at-requires-clause-open g c = open_after c.args.network.now c.all_parts.new.network c.in_ok-first.ensures.grown c.requires.open

pub compile_at-requires-clause-placed : goal.compile_at-requires-clause-placed
compile_at-requires-clause-placed g c = placed_after c.args.network.now c.all_parts.new.network c.args.unit.now.node c.args.unit.now.labels c.in_ok-first.ensures.grown (unit_placed c.args.network.now c.args.sources.now c.args.unit.now.node c.args.unit.now.labels c.requires.sources c.requires.unit c.requires.nothing)

pub compile_at-requires-clause-sources : goal.compile_at-requires-clause-sources
compile_at-requires-clause-sources g c = sources_after c.args.network.now c.all_parts.new.network c.args.sources.now c.in_ok-first.ensures.grown c.requires.sources

pub compile_at-requires-clause-ready : goal.compile_at-requires-clause-ready
compile_at-requires-clause-ready g c =
    subst (λ rs. IsReady (g.P.Coder.cell_of c.args.coder.now) rs (vars_of c.args.unit.now.labels) c.args.right.now) (sym c.in_ok-first.ensures.grown.rels)
    (subst (λ ls. IsReady (g.P.Coder.cell_of c.args.coder.now) c.args.network.now.rels (vars_of ls) c.args.right.now) (sym c.requires.nothing) (right_ready (g.P.Coder.cell_of c.args.coder.now) c.args.network.now.rels c.args.vars.now c.args.front.now c.args.right.now (subst (λ b. IsReady (g.P.Coder.cell_of c.args.coder.now) c.args.network.now.rels [] (Exists c.args.vars.now b)) c.requires.parts.is c.requires.ready) c.requires.parts.alone))

pub difference-requires-clause-open : goal.difference-requires-clause-open
difference-requires-clause-open g c = open_after c.args.network.now c.compile_at.new.network (grown_then c.args.network.now c.all_parts.new.network c.compile_at.new.network c.in_ok-first.ensures.grown c.in_ok-second.ensures.grown) c.requires.open

pub difference-requires-clause-left : goal.difference-requires-clause-left
difference-requires-clause-left g c = placed_after c.all_parts.new.network c.compile_at.new.network c.in_ok-first.first.node c.in_ok-first.first.labels c.in_ok-second.ensures.grown c.in_ok-first.ensures.placed

pub difference-requires-clause-in_left : goal.difference-requires-clause-in_left
difference-requires-clause-in_left g c =
    wanted_in (And c.args.front.now) c.args.right.now c.args.unit.now.labels c.in_ok-wanted.wanted c.in_ok-first.first.labels (right_within (g.P.Coder.cell_of c.args.coder.now) c.args.network.now.rels c.args.vars.now c.args.front.now c.args.right.now (subst (λ b. IsReady (g.P.Coder.cell_of c.args.coder.now) c.args.network.now.rels [] (Exists c.args.vars.now b)) c.requires.parts.is c.requires.ready)) c.in_ok-wanted.ensures c.in_ok-first.ensures.labelled

pub difference-requires-clause-in_right : goal.difference-requires-clause-in_right
difference-requires-clause-in_right g c =
    wanted_in c.args.right.now c.args.right.now c.args.unit.now.labels c.in_ok-wanted.wanted c.in_ok-second.second.labels (λ x at. at) c.in_ok-wanted.ensures c.in_ok-second.ensures.labelled

pub with_room-requires-clause-open : goal.with_room-requires-clause-open
with_room-requires-clause-open g c = open_after c.args.network.now c.difference.new.network (grown_then c.args.network.now c.compile_at.new.network c.difference.new.network (grown_then c.args.network.now c.all_parts.new.network c.compile_at.new.network c.in_ok-first.ensures.grown c.in_ok-second.ensures.grown) c.in_ok-less.ensures.made.grown) c.requires.open

pub with_room-requires-clause-placed : goal.with_room-requires-clause-placed
with_room-requires-clause-placed g c = subst (Placed c.difference.new.network c.in_ok-less.less.node) (sym c.in_ok-less.ensures.labels) c.in_ok-less.ensures.made.placed

pub with_room-requires-clause-sources : goal.with_room-requires-clause-sources
with_room-requires-clause-sources g c = sources_after c.args.network.now c.difference.new.network c.args.sources.now (grown_then c.args.network.now c.compile_at.new.network c.difference.new.network (grown_then c.args.network.now c.all_parts.new.network c.compile_at.new.network c.in_ok-first.ensures.grown c.in_ok-second.ensures.grown) c.in_ok-less.ensures.made.grown) c.requires.sources

pub returns : goal.returns
returns g c =
    let own = subst (λ ls. WithVars (firsts (occurrences c.args.right.now)) c.args.unit.now.labels ls) (sym c.in_ok-less.ensures.labels) c.in_ok-wanted.ensures in
    subst (λ b. Rooted g.P.Cell.Ord.cmp g.P.Cell.Cell.int_of (g.P.Coder.cell_of c.args.coder.now) c.args.sources.now.consts (Exists c.args.vars.now b) c.args.network.now c.with_room.new.network c.in_ok-node.node c.in_ok-less.less.labels) (sym c.requires.parts.is)
    (referring_made (g.P.Coder.cell_of c.args.coder.now) c.args.sources.now.consts c.args.vars.now c.args.front.now c.args.right.now c.args.network.now c.all_parts.new.network c.compile_at.new.network c.difference.new.network c.with_room.new.network c.args.sources.now c.args.unit.now.node c.args.unit.now.labels c.in_ok-first.first.node c.in_ok-first.first.labels
    c.in_ok-second.second.node c.in_ok-second.second.labels c.in_ok-less.less.node c.in_ok-node.node c.in_ok-less.less.labels c.requires.sources c.requires.unit c.requires.nothing c.requires.parts.alone
    (subst (λ b. occurrences (Exists c.args.vars.now b) ≡ []) c.requires.parts.is c.requires.closed) c.in_ok-first.ensures c.in_ok-second.ensures own
    (wanted_in (And c.args.front.now) c.args.right.now c.args.unit.now.labels c.in_ok-less.less.labels c.in_ok-first.first.labels (right_within (g.P.Coder.cell_of c.args.coder.now) c.args.network.now.rels c.args.vars.now c.args.front.now c.args.right.now (subst (λ b. IsReady (g.P.Coder.cell_of c.args.coder.now) c.args.network.now.rels [] (Exists c.args.vars.now b)) c.requires.parts.is c.requires.ready)) own c.in_ok-first.ensures.labelled)
    (subst (λ ls. Difference g.P.Cell.Ord.cmp g.P.Cell.Cell.int_of c.compile_at.new.network c.difference.new.network c.in_ok-first.first.node c.in_ok-first.first.labels c.in_ok-second.second.node c.in_ok-second.second.labels c.in_ok-less.less.node ls) (sym c.in_ok-less.ensures.labels) c.in_ok-less.ensures.made)
    (subst (λ b. RoomMade g.P.Cell.Ord.cmp g.P.Cell.Cell.int_of (g.P.Coder.cell_of c.args.coder.now) c.args.sources.now.consts c.args.vars.now b c.difference.new.network c.with_room.new.network c.in_ok-less.less.node c.in_ok-less.less.labels c.in_ok-node.node) c.requires.parts.is
    (subst (λ vs. RoomMade g.P.Cell.Ord.cmp g.P.Cell.Cell.int_of (g.P.Coder.cell_of c.args.coder.now) c.args.sources.now.consts vs c.args.body.now c.difference.new.network c.with_room.new.network c.in_ok-less.less.node c.in_ok-less.less.labels c.in_ok-node.node) c.as_slice.ensures c.in_ok-node.ensures)))

pub all_parts-requires-clause-placed : goal.all_parts-requires-clause-placed
all_parts-requires-clause-placed g c = unit_placed c.args.network.now c.args.sources.now c.args.unit.now.node c.args.unit.now.labels c.requires.sources c.requires.unit c.requires.nothing
