use Rattle.dbn_formula.proofs.SolutionLaws.{answer_solved, solution_answers, sentence_solved}
use Rattle.dbn_formula.proofs.safety_laws.safe_formulas_are_solved.Goals as goal

pub returns-clause-sound : goal.returns-clause-sound
returns-clause-sound c = λ rels vars f db accepted fits row at. solution_answers rels vars f db accepted fits row at

pub returns-clause-complete : goal.returns-clause-complete
returns-clause-complete c = λ rels vars f db accepted fits row at. answer_solved rels vars f db accepted fits row at

pub returns-clause-sentences : goal.returns-clause-sentences
returns-clause-sentences c = sentence_solved
