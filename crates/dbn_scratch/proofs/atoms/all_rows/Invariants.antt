use Rattle.std.proofs.Common.{◌≡◌, ◌++◌}
use Rattle.dbn_scratch.specs.Indexes.{shown}
use Rattle.dbn_scratch.proofs.atoms.all_rows.Given as goal

abbrev pub invariant-loop-row : goal.invariant-loop-row
invariant-loop-row l = shown l.all.items ++ l.row-iterator ≡ l.rows.keys
