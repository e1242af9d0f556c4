use Rattle.std.proofs.Common.{◌≡◌, ◌++◌, take}
use Rattle.dbn_scratch.specs.Given.{row_of}
use Rattle.dbn_scratch.proofs.domains.add_values.Given as goal

abbrev pub invariant-loop-value : goal.invariant-loop-value
invariant-loop-value l = row_of l.out.items ≡ row_of l.fn.out.items ++ take l.value-index l.values
