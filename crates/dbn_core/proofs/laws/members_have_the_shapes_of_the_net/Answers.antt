use Rattle.dbn_core.proofs.FiringLaws.{member_fits}
use Rattle.dbn_core.proofs.laws.members_have_the_shapes_of_the_net.Goals as goal

pub returns : goal.returns
returns c = member_fits
