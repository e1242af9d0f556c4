use Rattle.dbn_core.proofs.FiringLaws.{refuses}
use Rattle.dbn_core.proofs.laws.a_refused_group_names_its_first_refused_member.Goals as goal

pub returns : goal.returns
returns c = refuses
