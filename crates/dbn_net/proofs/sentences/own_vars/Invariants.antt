use Rattle.std.proofs.Common.{◌≡◌, ◌++◌, drop}
use Rattle.dbn_net.specs.Sentences.{own_vars}
use Rattle.dbn_net.proofs.sentences.own_vars.Given as goal

abbrev pub invariant-loop-column : goal.invariant-loop-column
invariant-loop-column l = l.vars ++ own_vars l.fields l.to_fields l.column (drop l.column l.shape) ≡ own_vars l.fields l.to_fields 0 l.shape
