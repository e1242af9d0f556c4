use Rattle.dbn_engine.proofs.Silent.{silent}
use Rattle.dbn_engine.proofs.laws.lines_without_a_reply_change_nothing.Goals as goal

pub returns : goal.returns
returns c = silent
