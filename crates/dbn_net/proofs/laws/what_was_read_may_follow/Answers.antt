use Rattle.dbn_net.proofs.PassesLaws.{read_passes}
use Rattle.dbn_net.proofs.laws.what_was_read_may_follow.Goals as goal

pub returns : goal.returns
returns c = read_passes
