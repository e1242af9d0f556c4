use Rattle.std.proofs.Common.{◌≡◌, take}
use Rattle.dbn_scratch.specs.Given.{row_of}
use Rattle.dbn_scratch.proofs.listing.copied_row.Given as goal

abbrev pub invariant-loop-value : goal.invariant-loop-value
invariant-loop-value l = l.values.items ≡ row_of (take l.value-index l.row)
