use Rattle.std.proofs.Common.{◌≡◌, ◌++◌}
use Rattle.dbn_scratch.specs.Given.{row_of}
use Rattle.dbn_scratch.proofs.domains.listed.Given as goal

abbrev pub invariant-loop-value : goal.invariant-loop-value
invariant-loop-value l = row_of l.values.items ++ l.value-iterator ≡ l.set.keys
