use Rattle.std.proofs.Common.{◌≡◌, drop}
use Rattle.dbn_plan.specs.Columns.{with_vars}
use Rattle.dbn_plan.proofs.labels.with_vars.Given as goal

abbrev pub invariant-loop-x : goal.invariant-loop-x
invariant-loop-x l = with_vars l.wanted (drop l.x-index l.vars) ≡ with_vars l.labels l.vars
