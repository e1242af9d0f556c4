use Rattle.dbn_codec.proofs.Members.{body_takes_all, group_takes_all}
use Rattle.dbn_codec.proofs.laws.what_is_read_has_that_body.Goals as goal

pub returns-clause-one : goal.returns-clause-one
returns-clause-one c = body_takes_all

pub returns-clause-group : goal.returns-clause-group
returns-clause-group c = group_takes_all
