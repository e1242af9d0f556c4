use Rattle.std.proofs.Common.{◌≡◌, ◌++◌, [], take, drop}
use Rattle.dbn_plan.specs.Columns.{tests_after}
use Rattle.dbn_plan.proofs.columns.tests_of.Given as goal

abbrev pub invariant-loop-i : goal.invariant-loop-i
invariant-loop-i g l = l.tests ++ tests_after (g.P.Coder.cell_of l.coder) (take l.i l.terms) (drop l.i l.terms) ≡ tests_after (g.P.Coder.cell_of l.coder) [] l.terms
