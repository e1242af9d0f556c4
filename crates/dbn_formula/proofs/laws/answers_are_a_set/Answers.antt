use Rattle.dbn_formula.proofs.AnswersLaws.{sorted_answers, in_answers, answers_in}
use Rattle.dbn_formula.proofs.laws.answers_are_a_set.Goals as goal

pub returns-clause-ascending : goal.returns-clause-ascending
returns-clause-ascending c = sorted_answers

pub returns-clause-within : goal.returns-clause-within
returns-clause-within c = λ f vars db row at. (in_answers f vars db row at).0

pub returns-clause-sound : goal.returns-clause-sound
returns-clause-sound c = λ f vars db row at. (in_answers f vars db row at).1

pub returns-clause-complete : goal.returns-clause-complete
returns-clause-complete c = answers_in
