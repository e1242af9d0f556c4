use Rattle.dbn_core.proofs.FiringLaws.{counts_firings}
use Rattle.dbn_core.proofs.laws.firings_are_counted.Goals as goal

pub returns : goal.returns
returns c net s after n row f fires = counts_firings net s n row f after fires
