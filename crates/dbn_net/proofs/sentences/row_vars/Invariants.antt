use Rattle.std.proofs.Common.{◌≡◌, ◌++◌, drop}
use Rattle.dbn_net.specs.Sentences.{column_var, row_vars}
use Rattle.dbn_net.proofs.sentences.row_vars.Given as goal

abbrev pub invariant-loop-column : goal.invariant-loop-column
invariant-loop-column l = l.vars ++ row_vars (column_var l.letter) l.column (drop l.column l.shape) ≡ row_vars (column_var l.letter) 0 l.shape
