use Rattle.std.proofs.Common.{◌≡◌, ◌++◌, drop}
use Rattle.dbn_plan.specs.Columns.{pairs_from}
use Rattle.dbn_plan.proofs.columns.pairs_of.Given as goal

abbrev pub invariant-loop-i : goal.invariant-loop-i
invariant-loop-i l = l.on ++ pairs_from l.labels l.i (drop l.i l.terms) ≡ pairs_from l.labels 0 l.terms
