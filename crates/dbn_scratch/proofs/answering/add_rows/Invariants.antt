use Rattle.std.proofs.Common.{List, ◌≡◌, ◌++◌, take}
use Rattle.dbn_value.specs.Ascending.{ascending}
use Rattle.dbn_value.specs.Order.{row_cmp}
use Rattle.dbn_value.specs.declared.value.Value.{Value}
use Rattle.dbn_scratch.specs.Given.{rows_of}
use Rattle.dbn_scratch.proofs.answering.add_rows.Given as goal

abbrev pub invariant-loop-row : goal.invariant-loop-row
invariant-loop-row l = (before : List (List Value)) → l.fn.set.keys ≡ ascending row_cmp before → l.set.keys ≡ ascending row_cmp (before ++ rows_of (take l.row-index l.rows))
