use Rattle.std.proofs.Common.{◌≡◌, ◌++◌, drop}
use Rattle.dbn_net.specs.Sentences.{paired_terms}
use Rattle.dbn_net.proofs.sentences.paired_terms.Given as goal

abbrev pub invariant-loop-column : goal.invariant-loop-column
invariant-loop-column l = l.terms ++ paired_terms l.fields l.to_fields l.column (drop l.column l.shape) ≡ paired_terms l.fields l.to_fields 0 l.shape
