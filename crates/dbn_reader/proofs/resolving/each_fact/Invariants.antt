use Rattle.std.proofs.Common.{◌≡◌, length}
use Rattle.dbn_net.specs.Maybe.{each, each_from}
use Rattle.dbn_net.specs.Tables.{relation_names}
use Rattle.dbn_net.specs.Naming.{fact_pattern}
use Rattle.dbn_reader.proofs.resolving.each_fact.Given as goal

abbrev pub invariant-loop-atom : goal.invariant-loop-atom
invariant-loop-atom l = each (fact_pattern (relation_names l.net)) l.fn.written ≡ each_from (fact_pattern (relation_names l.net)) l.made l.left

abbrev pub decreases-loop-atom : goal.decreases-loop-atom
decreases-loop-atom l = length l.left
