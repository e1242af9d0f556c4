use Rattle.std.proofs.Common.{true}
use Rattle.dbn_formula.proofs.NormalSize.{small}
use Rattle.dbn_formula.proofs.laws.normal_is_small.Goals as goal

pub returns : goal.returns
returns c = λ f. small f true
