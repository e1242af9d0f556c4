use Rattle.std.proofs.Common.{true, ap}
use Rattle.dbn_formula.specs.Variables.{firsts}
use Rattle.dbn_formula.proofs.NormalMeaning.{meant}
use Rattle.dbn_formula.proofs.NormalFree.{kept as free_kept}
use Rattle.dbn_formula.proofs.NormalConstants.{kept as constants_kept}
use Rattle.dbn_formula.proofs.NormalAnswers.{same_answers}
use Rattle.dbn_formula.proofs.laws.normal_keeps.Goals as goal

pub returns-clause-meaning : goal.returns-clause-meaning
returns-clause-meaning c = λ dom db f env. (meant dom db f).yes env

pub returns-clause-variables : goal.returns-clause-variables
returns-clause-variables c = λ f. ap firsts (free_kept f true)

pub returns-clause-values : goal.returns-clause-values
returns-clause-values c = λ f. constants_kept f true

pub returns-clause-rows : goal.returns-clause-rows
returns-clause-rows c = same_answers
