use Rattle.std.proofs.Common.{◌≡◌, ◌+◌, ◌++◌, ◌∙◌, [], ◌∷◌, take, sym, subst, ap}
use Rattle.std.proofs.lemmas.List.{take_all, take_more}
use Rattle.dbn_value.specs.declared.term.Var.{Var}
use Rattle.dbn_value.specs.declared.value.ColType.{ColType}
use Rattle.dbn_plan.specs.declared.context.Context.{Context}
use Rattle.dbn_plan.specs.Making.{Placed, RoomMade}
use Rattle.dbn_plan.proofs.StepLaws.{open_after, sources_after}
use Rattle.dbn_plan.proofs.RoomLaws.{room_start, room_then}
use Rattle.dbn_plan.proofs.room.with_room.Goals as goal

pub loop-var-init : goal.loop-var-init
loop-var-init g c = (
  subst (λ (b : Context). RoomMade g.P.Cell.Ord.cmp g.P.Cell.Cell.int_of (g.P.Coder.cell_of c.args.coder.now) c.args.sources.now.consts [] c.args.body.now c.args.network.now c.args.network.now c.args.at.now.node c.args.at.now.labels b.node) (sym c.in_ok-now.ensures)
      (room_start g.P.Cell.Ord.cmp g.P.Cell.Cell.int_of (g.P.Coder.cell_of c.args.coder.now) c.args.sources.now.consts c.args.network.now c.args.at.now.node c.args.at.now.labels c.args.body.now c.requires.placed),
  ap (λ (b : Context). b.labels) c.in_ok-now.ensures,
)

pub roomed-requires-clause-open : goal.roomed-requires-clause-open
roomed-requires-clause-open g c = open_after c.args.network.now c.loop-var.network c.loop-var.invariant.0.grown c.requires.open

pub roomed-requires-clause-placed : goal.roomed-requires-clause-placed
roomed-requires-clause-placed g c = subst (Placed c.loop-var.network c.loop-var.now.node) (sym c.loop-var.invariant.1) c.loop-var.invariant.0.placed

pub roomed-requires-clause-sources : goal.roomed-requires-clause-sources
roomed-requires-clause-sources g c = sources_after c.args.network.now c.loop-var.network c.args.sources.now c.loop-var.invariant.0.grown c.requires.sources

pub roomed-requires-clause-occurring : goal.roomed-requires-clause-occurring
roomed-requires-clause-occurring g c = c.as_slice.ensures ∙ c.in_ok-occurring.ensures

pub loop-var-preserved : goal.loop-var-preserved
loop-var-preserved g c =
    let vars = c.args.vars.now in
    let i = c.loop-var.var-index in
    let var = c.var-item.result in
    let more : take (i + 1) vars ≡ take i vars ++ var ∷ [] = take_more vars i var c.loop-var-test.true ∙ ap (λ (y : Var × ColType). take i vars ++ y ∷ []) (sym c.var-item.is) in (
      room_then g.P.Cell.Ord.cmp g.P.Cell.Cell.int_of (g.P.Coder.cell_of c.args.coder.now) c.args.sources.now.consts c.args.network.now c.loop-var.network c.roomed.new.network c.args.at.now.node c.args.at.now.labels (take i vars) (take (i + 1) vars) var c.args.body.now c.loop-var.now.node c.in_ok-node.node more
          c.loop-var.invariant.0
          (subst (λ ls. RoomMade g.P.Cell.Ord.cmp g.P.Cell.Cell.int_of (g.P.Coder.cell_of c.args.coder.now) c.args.sources.now.consts (var ∷ []) c.args.body.now c.loop-var.network c.roomed.new.network c.loop-var.now.node ls c.in_ok-node.node) c.loop-var.invariant.1 c.in_ok-node.ensures),
      c.loop-var.invariant.1,
    )

pub returns : goal.returns
returns g c =
    subst (λ vs. RoomMade g.P.Cell.Ord.cmp g.P.Cell.Cell.int_of (g.P.Coder.cell_of c.args.coder.now) c.args.sources.now.consts vs c.args.body.now c.args.network.now c.loop-var.network c.args.at.now.node c.args.at.now.labels c.loop-var.now.node) (take_all c.loop-var.var-index c.args.vars.now c.loop-var-test.false)
    c.loop-var.invariant.0
