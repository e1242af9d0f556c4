use Rattle.dbn_formula.proofs.NoFault.{typed_closed, scope_decides}
use Rattle.dbn_formula.proofs.typing_laws.typed_formulas_are_closed.Goals as goal

pub returns-clause-variables : goal.returns-clause-variables
returns-clause-variables c = typed_closed

pub returns-clause-meaning : goal.returns-clause-meaning
returns-clause-meaning c = scope_decides
