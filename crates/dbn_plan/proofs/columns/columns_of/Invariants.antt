use Rattle.std.proofs.Common.{take}
use Rattle.dbn_plan.specs.Columns.{Labelled}
use Rattle.dbn_plan.proofs.columns.columns_of.Given as goal

abbrev pub invariant-loop-label : goal.invariant-loop-label
invariant-loop-label l = Labelled l.labels l.cols.items (take l.label-index l.wanted)
