use Rattle.std.proofs.Common.{◌≡◌, ◌++◌}
use Rattle.dbn_instance.proofs.relation.RelationCopyIn.copy_in.Given as goal

abbrev pub invariant-loop-row : goal.invariant-loop-row
invariant-loop-row g l = l.rows.keys ++ l.row-iterator ≡ l.self
