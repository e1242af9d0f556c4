use Rattle.std.proofs.Common.{◌≡◌, ◌∙◌, [], ◌∷◌, refl, sym, subst, true, false}
use Rattle.dbn_formula.specs.Variables.{is_in}
use Rattle.dbn_plan.proofs.RoomLaws.{room_start, room_occurs, room_filled}
use Rattle.dbn_plan.proofs.room.roomed.Goals as goal

pub returns-then-is_among : goal.returns-then-is_among
returns-then-is_among g c =
    room_occurs g.P.Cell.Ord.cmp g.P.Cell.Cell.int_of (g.P.Coder.cell_of c.args.coder.now) c.args.sources.now.consts c.args.network.now c.args.network.now c.args.at.now.node c.args.at.now.labels [] (c.args.var.now ∷ []) c.args.var.now c.args._body.now c.args.at.now.node refl
    (subst (λ xs. is_in c.args.var.now.0 xs ≡ true) c.requires.occurring (sym c.is_among.ensures ∙ c.if-is_among.true))
    (room_start g.P.Cell.Ord.cmp g.P.Cell.Cell.int_of (g.P.Coder.cell_of c.args.coder.now) c.args.sources.now.consts c.args.network.now c.args.at.now.node c.args.at.now.labels c.args._body.now c.requires.placed)

pub returns : goal.returns
returns g c =
    room_filled g.P.Cell.Ord.cmp g.P.Cell.Cell.int_of (g.P.Coder.cell_of c.args.coder.now) c.args.sources.now.consts c.args.network.now c.args.network.now c.filled.new.network c.args.at.now.node c.args.at.now.labels [] (c.args.var.now ∷ []) c.args.var.now c.args._body.now c.args.at.now.node c.in_ok-made.made refl
    (subst (λ xs. is_in c.args.var.now.0 xs ≡ false) c.requires.occurring (sym c.is_among.ensures ∙ c.if-is_among.false))
    (room_start g.P.Cell.Ord.cmp g.P.Cell.Cell.int_of (g.P.Coder.cell_of c.args.coder.now) c.args.sources.now.consts c.args.network.now c.args.at.now.node c.args.at.now.labels c.args._body.now c.requires.placed) c.in_ok-made.ensures
