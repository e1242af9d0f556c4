use Rattle.std.proofs.Common.{◌≡◌, ◌+◌, ◌≤◌, length, sum_by}
use Rattle.dbn_net.specs.Maybe.{each, each_from}
use Rattle.dbn_net.specs.Tables.{relation_names}
use Rattle.dbn_net.specs.Naming.{resolved_formula}
use Rattle.dbn_reader.proofs.WrittenWeights.{weight}
use Rattle.dbn_reader.proofs.resolving.+resolved.Given as goal

abbrev pub decreases-resolved_formula : goal.decreases-resolved_formula
decreases-resolved_formula l = weight l.written

abbrev pub decreases-each_formula : goal.decreases-each_formula
decreases-each_formula l = sum_by weight l.written + 1

abbrev pub invariant-each_formula-loop-part : goal.invariant-each_formula-loop-part
invariant-each_formula-loop-part l =
    record {
      is : each (resolved_formula (relation_names l.net)) l.fn.written ≡ each_from (resolved_formula (relation_names l.net)) l.made l.left;
      within : sum_by weight l.left ≤ sum_by weight l.fn.written;
    }

abbrev pub decreases-each_formula-loop-part : goal.decreases-each_formula-loop-part
decreases-each_formula-loop-part l = length l.left
