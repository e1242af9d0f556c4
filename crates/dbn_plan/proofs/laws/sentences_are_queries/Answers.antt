use Rattle.dbn_plan.proofs.SentenceLaws.{denial_accepted, denial_answers}
use Rattle.dbn_plan.proofs.laws.sentences_are_queries.Goals as goal

pub returns-clause-accepted : goal.returns-clause-accepted
returns-clause-accepted c = denial_accepted

pub returns-clause-denied : goal.returns-clause-denied
returns-clause-denied c = denial_answers
