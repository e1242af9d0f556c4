use Rattle.std.proofs.Common.{◌≡◌, ◌++◌, List}
use Rattle.std.specs.List.{filter}
use Rattle.dbn_value.specs.declared.value.Value.{Value}
use Rattle.dbn_scratch.specs.Indexes.{has_key, rows_under}
use Rattle.dbn_scratch.proofs.indexes.indexed.Given as goal

abbrev pub invariant-loop-row : goal.invariant-loop-row
invariant-loop-row l =
    (key : List Value) → rows_under l.index.entries key ++ filter (has_key l.marks key) l.row-iterator ≡ filter (has_key l.marks key) l.fn.rows.keys
