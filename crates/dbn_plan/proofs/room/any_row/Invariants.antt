use Rattle.dbn_plan.specs.Filling.{AnyMade}
use Rattle.dbn_plan.proofs.room.any_row.Given as goal

abbrev pub invariant-loop-rel : goal.invariant-loop-rel
invariant-loop-rel g l = AnyMade g.P.Cell.Ord.cmp g.P.Cell.Cell.int_of (g.P.Coder.cell_of l.coder) l.sources.consts l.of_type l.rel l.fn.network l.network l.made
