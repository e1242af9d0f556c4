use Rattle.std.proofs.Common.{◌≡◌, ◌++◌, ◌+◌, length}
use Rattle.std.specs.Map.{keys_of}
use Rattle.dbn_nodes.proofs.shelf.copy_rows.Given as goal

abbrev pub invariant-loop-row : goal.invariant-loop-row
invariant-loop-row g l = (l.rows ++ keys_of l.row-iterator ≡ keys_of l.all.entries) × (l.steps ≡ l.fn.steps + length l.rows)
