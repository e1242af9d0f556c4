use Rattle.std.proofs.Common.{◌≡◌, ◌++◌, map, drop}
use Rattle.dbn_net.specs.Sentences.{same_at, columns_from}
use Rattle.dbn_net.proofs.sentences.all_same.Given as goal

abbrev pub invariant-loop-column : goal.invariant-loop-column
invariant-loop-column l = l.parts ++ map same_at (columns_from l.column (drop l.column l.shape)) ≡ map same_at (columns_from 0 l.shape)
