use Rattle.std.proofs.Common.{◌≡◌, ◌+◌, map, take, sum_by}
use Rattle.dbn_formula.proofs.Weights.{weight}
use Rattle.dbn_net.specs.Tables.{relation_names}
use Rattle.dbn_net.specs.Naming.{named_formula}
use Rattle.dbn_net.specs.Printing.{formula_sexp}
use Rattle.dbn_writer.proofs.formulas.+formulas.Given as goal

abbrev pub decreases-formula : goal.decreases-formula
decreases-formula l = weight l.f.now

abbrev pub decreases-formulas : goal.decreases-formulas
decreases-formulas l = sum_by weight l.parts.now + 1

abbrev pub invariant-formulas-loop-part : goal.invariant-formulas-loop-part
invariant-formulas-loop-part l = l.out ≡ map (λ f. formula_sexp (named_formula (relation_names l.net) f)) (take l.part-index l.parts)
