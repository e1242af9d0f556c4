use Rattle.dbn_formula.proofs.StaysSafe.{stays_safe}
use Rattle.dbn_formula.proofs.safety_laws.safe_stays_safe.Goals as goal

pub returns : goal.returns
returns c = stays_safe
