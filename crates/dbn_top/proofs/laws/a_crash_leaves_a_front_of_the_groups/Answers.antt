use Rattle.dbn_top.proofs.GroupLaws.{front_of_groups}
use Rattle.dbn_top.proofs.laws.a_crash_leaves_a_front_of_the_groups.Goals as goal

pub returns : goal.returns
returns c = front_of_groups
