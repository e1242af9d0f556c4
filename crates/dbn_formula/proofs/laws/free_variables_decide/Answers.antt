use Rattle.dbn_formula.proofs.Depends.{free_decides}
use Rattle.dbn_formula.proofs.laws.free_variables_decide.Goals as goal

pub returns : goal.returns
returns c = free_decides
