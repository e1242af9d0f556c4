use Rattle.dbn_formula.proofs.Bounded.{bounded}
use Rattle.dbn_formula.proofs.safety_laws.safe_formulas_are_bounded.Goals as goal

pub returns : goal.returns
returns c = λ dom rels db f scope bound env rows ready t valued e. bounded dom db rels rows f scope bound t ready.safe_here ready.typed ready.scoped ready.constants_in valued e
