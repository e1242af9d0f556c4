use Rattle.dbn_net.proofs.RoundGood.{good_again}
use Rattle.dbn_net.proofs.laws.texts_are_read_again.Goals as goal

pub returns : goal.returns
returns c = good_again
