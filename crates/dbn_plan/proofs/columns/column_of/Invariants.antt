use Rattle.std.proofs.Common.{drop}
use Rattle.dbn_value.specs.Members.{In}
use Rattle.dbn_plan.proofs.columns.column_of.Given as goal

abbrev pub invariant-loop-i : goal.invariant-loop-i
invariant-loop-i l = In l.wanted (drop l.i l.labels)
