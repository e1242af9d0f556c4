use Rattle.std.proofs.Common.{◌≡◌, length}
use Rattle.dbn_net.specs.Maybe.{each, each_from}
use Rattle.dbn_net.specs.Naming.{arc}
use Rattle.dbn_reader.proofs.resolving.each_arc.Given as goal

abbrev pub invariant-loop-arc : goal.invariant-loop-arc
invariant-loop-arc l = each (arc l.net) l.fn.written ≡ each_from (arc l.net) l.made l.left

abbrev pub decreases-loop-arc : goal.decreases-loop-arc
decreases-loop-arc l = length l.left
