use Rattle.dbn_net.proofs.SentenceTypes.{sentence_is_typed, violation_typed}
use Rattle.dbn_net.proofs.laws.sentences_are_typed.Goals as goal

pub returns-clause-sentences : goal.returns-clause-sentences
returns-clause-sentences c = sentence_is_typed

pub returns-clause-violations : goal.returns-clause-violations
returns-clause-violations c = λ net v ok at. violation_typed net ok v at
