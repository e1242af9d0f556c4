use Rattle.dbn_top.proofs.Tops.{complete}
use Rattle.dbn_top.proofs.laws.calls_without_a_fault_end_as_declared.Goals as goal

pub returns : goal.returns
returns c = complete
