use Rattle.std.proofs.Common.{◌≡◌, [], subst}
use Rattle.dbn_formula.specs.Free.{occurrences}
use Rattle.dbn_plan.proofs.top.exists_behind.Goals as goal

pub difference_rows-requires-clause-closed : goal.difference_rows-requires-clause-closed
difference_rows-requires-clause-closed g c = subst (λ f. occurrences f ≡ []) c.requires.form (c.in_ok-is_closed.ensures c.if-branch.true)
