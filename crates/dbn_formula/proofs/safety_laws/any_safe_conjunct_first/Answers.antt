use Rattle.dbn_formula.proofs.StaysSafe.{safe_first}
use Rattle.dbn_formula.proofs.safety_laws.any_safe_conjunct_first.Goals as goal

pub returns : goal.returns
returns c = λ before f after bound e. safe_first before f after bound e
