use Rattle.std.proofs.Common.{◌≡◌, ◌++◌, map, length}
use Rattle.dbn_net.specs.Naming.{pattern}
use Rattle.dbn_reader.proofs.resolving.each_pattern.Given as goal

abbrev pub invariant-loop-many : goal.invariant-loop-many
invariant-loop-many l = map pattern l.fn.written ≡ l.made ++ map pattern l.left

abbrev pub decreases-loop-many : goal.decreases-loop-many
decreases-loop-many l = length l.left
