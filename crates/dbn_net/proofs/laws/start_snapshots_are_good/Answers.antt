use Rattle.dbn_net.proofs.StartLaws.{text_good}
use Rattle.dbn_net.proofs.laws.start_snapshots_are_good.Goals as goal

pub returns : goal.returns
returns c = text_good
