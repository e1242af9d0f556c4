use Rattle.std.proofs.Common.{◌≡◌, take}
use Rattle.dbn_scratch.specs.Given.{of_type, row_of}
use Rattle.dbn_scratch.proofs.domains.of_type.Given as goal

abbrev pub invariant-loop-value : goal.invariant-loop-value
invariant-loop-value l = l.set.keys ≡ of_type (row_of (take l.value-index l.values)) l.column
