use Rattle.dbn_net.proofs.LiftLaws.{fits_at, accepted_at, always_at}
use Rattle.dbn_net.proofs.laws.nets_fit.Goals as goal

pub returns-clause-transitions : goal.returns-clause-transitions
returns-clause-transitions c = fits_at

pub returns-clause-queries : goal.returns-clause-queries
returns-clause-queries c = accepted_at

pub returns-clause-sentences : goal.returns-clause-sentences
returns-clause-sentences c = always_at
