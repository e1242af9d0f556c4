use Rattle.dbn_net.proofs.NextLaws.{next_is_past}
use Rattle.dbn_net.proofs.laws.the_next_id_is_new.Goals as goal

pub returns : goal.returns
returns c = next_is_past
