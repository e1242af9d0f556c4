use Rattle.dbn_core.proofs.FiringLaws.{keeps_facts}
use Rattle.dbn_core.proofs.laws.rolled_back_firings_keep_the_facts.Goals as goal

pub returns : goal.returns
returns c net s after n row f fires = keeps_facts net s n row f after fires
