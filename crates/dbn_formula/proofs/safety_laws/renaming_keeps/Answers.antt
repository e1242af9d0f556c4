use Rattle.dbn_formula.proofs.RenameLaws.{renamed_holds}
use Rattle.dbn_formula.proofs.RenameFree.{renamed_free, renamed_constants}
use Rattle.dbn_formula.proofs.RenameApart.{renamed_apart}
use Rattle.dbn_formula.proofs.DistinctLaws.{renamed_distinct}
use Rattle.dbn_formula.proofs.safety_laws.renaming_keeps.Goals as goal

pub returns-clause-meaning : goal.returns-clause-meaning
returns-clause-meaning c = renamed_holds

pub returns-clause-variables : goal.returns-clause-variables
returns-clause-variables c = renamed_free

pub returns-clause-values : goal.returns-clause-values
returns-clause-values c = renamed_constants

pub returns-clause-apart : goal.returns-clause-apart
returns-clause-apart c = renamed_apart

pub returns-clause-once : goal.returns-clause-once
returns-clause-once c = renamed_distinct
