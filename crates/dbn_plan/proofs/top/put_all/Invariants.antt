use Rattle.std.proofs.Common.{take}
use Rattle.dbn_value.specs.Coding.{Extends}
use Rattle.dbn_plan.specs.Columns.{HaveCells}
use Rattle.dbn_plan.proofs.top.put_all.Given as goal

abbrev pub invariant-loop-value : goal.invariant-loop-value
invariant-loop-value g l = Extends (g.P.Coder.cell_of l.fn.coder) (g.P.Coder.cell_of l.coder) × HaveCells (g.P.Coder.cell_of l.coder) (take l.value-index l.values)
