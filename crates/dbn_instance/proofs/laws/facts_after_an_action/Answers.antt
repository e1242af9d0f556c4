use Rattle.dbn_instance.proofs.FactLaws.{has_after_action}
use Rattle.dbn_instance.proofs.laws.facts_after_an_action.Goals as goal

pub returns : goal.returns
returns g c = has_after_action g.met.C.Ord.total g.met.C.Cell.exact
