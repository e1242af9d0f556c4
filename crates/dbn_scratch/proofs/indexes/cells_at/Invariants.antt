use Rattle.std.proofs.Common.{◌≡◌, ◌++◌}
use Rattle.dbn_scratch.specs.Indexes.{key_of}
use Rattle.dbn_scratch.proofs.indexes.cells_at.Given as goal

abbrev pub invariant-loop-mark : goal.invariant-loop-mark
invariant-loop-mark l = l.cells.items ++ key_of l.mark-iterator.a.rest.now l.mark-iterator.b.rest.now ≡ key_of l.fn.marks l.fn.row
