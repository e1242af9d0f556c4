use Rattle.dbn_engine.proofs.Asked.{asked_of}
use Rattle.dbn_engine.proofs.laws.lines_ask_for_what_the_net_has.Goals as goal

pub returns : goal.returns
returns c = asked_of
