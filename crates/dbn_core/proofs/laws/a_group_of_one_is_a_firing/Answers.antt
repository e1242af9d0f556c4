use Rattle.dbn_core.proofs.FiringLaws.{one_member, one_refused}
use Rattle.dbn_core.proofs.laws.a_group_of_one_is_a_firing.Goals as goal

pub returns-clause-fired : goal.returns-clause-fired
returns-clause-fired c net s after m f fires = one_member net s m f after fires

pub returns-clause-refused : goal.returns-clause-refused
returns-clause-refused c = one_refused
