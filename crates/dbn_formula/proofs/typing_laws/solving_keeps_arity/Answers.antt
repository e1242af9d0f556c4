use Rattle.std.proofs.Common.{true}
use Rattle.dbn_formula.proofs.ArityKept.{normal_arity, renamed_arity, arranged_arity, solvable_arity}
use Rattle.dbn_formula.proofs.typing_laws.solving_keeps_arity.Goals as goal

pub returns-clause-normal : goal.returns-clause-normal
returns-clause-normal c = λ rels f. normal_arity rels f true

pub returns-clause-renamed : goal.returns-clause-renamed
returns-clause-renamed c = renamed_arity

pub returns-clause-arranged : goal.returns-clause-arranged
returns-clause-arranged c = arranged_arity

pub returns-clause-solvable : goal.returns-clause-solvable
returns-clause-solvable c = solvable_arity
