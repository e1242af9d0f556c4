use Rattle.std.proofs.Common.{List}
use Rattle.dbn_value.specs.Members.{In}
use Rattle.dbn_value.specs.declared.value.Value.{Value}
use Rattle.dbn_formula.specs.Solutions.{HasShape}
use Rattle.dbn_scratch.proofs.tests.rows_fit.Given as goal

-- where what is left fits, all does
abbrev pub invariant-loop-row : goal.invariant-loop-row
invariant-loop-row l = ((row : List Value) → In row l.row-iterator → HasShape row l.shape) → (row : List Value) → In row l.fn.rows.keys → HasShape row l.shape
