use Rattle.std.proofs.Common.{◌≡◌, take}
use Rattle.dbn_plan.specs.Making.{RoomMade}
use Rattle.dbn_plan.proofs.room.with_room.Given as goal

abbrev pub invariant-loop-var : goal.invariant-loop-var
invariant-loop-var g l =
    RoomMade g.P.Cell.Ord.cmp g.P.Cell.Cell.int_of (g.P.Coder.cell_of l.coder) l.sources.consts (take l.var-index l.vars) l.body l.fn.network l.network l.at.node l.at.labels l.now.node × (l.now.labels ≡ l.at.labels)
