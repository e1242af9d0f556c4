use Rattle.dbn_top.proofs.GroupLaws.{run_fires}
use Rattle.dbn_top.proofs.laws.a_run_fires_its_groups.Goals as goal

pub returns : goal.returns
returns c = run_fires
