use Rattle.std.proofs.Common.{◌≡◌, ◌-◌, drop, length}
use Rattle.dbn_value.specs.Ascending.{rows_over}
use Rattle.dbn_scratch.specs.Given.{rows_of}
use Rattle.dbn_scratch.proofs.domains.rows_over.Given as goal

abbrev pub invariant-loop-done : goal.invariant-loop-done
invariant-loop-done l = rows_of l.rows ≡ rows_over (rows_of (drop (length l.columns - l.done) l.columns))
