use Rattle.dbn_formula.proofs.SolutionLaws.{answer_holds, holds_answer}
use Rattle.dbn_formula.proofs.safety_laws.answers_are_what_holds.Goals as goal

pub returns-clause-holding : goal.returns-clause-holding
returns-clause-holding c = λ rels vars f db accepted fits row at. answer_holds rels vars f db accepted fits row at

pub returns-clause-rows : goal.returns-clause-rows
returns-clause-rows c = λ rels vars f db accepted fits t e. holds_answer rels vars f db accepted fits t e
