use Rattle.dbn_top.proofs.Completes.{ends_done}
use Rattle.dbn_top.proofs.laws.calls_in_order_are_done.Goals as goal

pub returns : goal.returns
returns c = ends_done
