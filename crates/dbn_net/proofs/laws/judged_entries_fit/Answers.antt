use Rattle.dbn_net.proofs.StartLaws.{fact_judged_is, tokens_judged_are, sound_sizes}
use Rattle.dbn_net.proofs.laws.judged_entries_fit.Goals as goal

pub returns-clause-facts : goal.returns-clause-facts
returns-clause-facts c = fact_judged_is

pub returns-clause-tokens : goal.returns-clause-tokens
returns-clause-tokens c = tokens_judged_are

pub returns-clause-sizes : goal.returns-clause-sizes
returns-clause-sizes c = sound_sizes
