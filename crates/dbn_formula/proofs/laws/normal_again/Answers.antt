use Rattle.std.proofs.Common.{true}
use Rattle.dbn_formula.proofs.NormalAgain.{kept}
use Rattle.dbn_formula.proofs.laws.normal_again.Goals as goal

pub returns : goal.returns
returns c = λ f. kept f true
