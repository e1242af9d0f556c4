use Rattle.std.proofs.Common.{◌≡◌, ◌++◌}
use Rattle.dbn_instance.proofs.relation.Relation.rows.Given as goal

abbrev pub invariant-loop-row : goal.invariant-loop-row
invariant-loop-row g l = l.rows ++ l.row-iterator ≡ l.self
