use Rattle.dbn_writer.proofs.GoodLaws.{good_relations, good_places}
use Rattle.dbn_writer.proofs.laws.good_states_can_be_written.Goals as goal

pub returns-clause-relations : goal.returns-clause-relations
returns-clause-relations c = good_relations

pub returns-clause-places : goal.returns-clause-places
returns-clause-places c = good_places
