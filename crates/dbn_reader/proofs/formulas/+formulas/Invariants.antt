use Rattle.std.proofs.Common.{◌≡◌, ◌+◌, ◌*◌, drop}
use Rattle.dbn_net.specs.Maybe.{each, each_from}
use Rattle.dbn_net.specs.Forms.{formula_in}
use Rattle.dbn_reader.proofs.formulas.+formulas.Given as goal

abbrev pub decreases-formula_in : goal.decreases-formula_in
decreases-formula_in l = 6 * l.depth

abbrev pub decreases-headed : goal.decreases-headed
decreases-headed l = 6 * l.depth + 5

abbrev pub decreases-formula_of : goal.decreases-formula_of
decreases-formula_of l = 6 * l.depth + 4

abbrev pub decreases-connected : goal.decreases-connected
decreases-connected l = 6 * l.depth + 3

abbrev pub decreases-each_formula : goal.decreases-each_formula
decreases-each_formula l = 6 * l.depth + 2

abbrev pub decreases-one_of : goal.decreases-one_of
decreases-one_of l = 6 * l.depth + 2

abbrev pub decreases-two_of : goal.decreases-two_of
decreases-two_of l = 6 * l.depth + 2

abbrev pub decreases-quantified_of : goal.decreases-quantified_of
decreases-quantified_of l = 6 * l.depth + 2

abbrev pub invariant-each_formula-loop-one : goal.invariant-each_formula-loop-one
invariant-each_formula-loop-one l = each (formula_in l.depth) l.parts ≡ each_from (formula_in l.depth) l.made (drop l.one-index l.parts)
