use Rattle.dbn_top.proofs.GroupLaws.{one_way}
use Rattle.dbn_top.proofs.laws.groups_fire_in_one_way.Goals as goal

pub returns : goal.returns
returns c = one_way
