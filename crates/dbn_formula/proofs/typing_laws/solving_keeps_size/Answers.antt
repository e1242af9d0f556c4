use Rattle.dbn_formula.proofs.SizeKept.{renamed_size, arranged_size, solvable_small}
use Rattle.dbn_formula.proofs.typing_laws.solving_keeps_size.Goals as goal

pub returns-clause-renamed : goal.returns-clause-renamed
returns-clause-renamed c = renamed_size

pub returns-clause-arranged : goal.returns-clause-arranged
returns-clause-arranged c = arranged_size

pub returns-clause-solvable : goal.returns-clause-solvable
returns-clause-solvable c = solvable_small
