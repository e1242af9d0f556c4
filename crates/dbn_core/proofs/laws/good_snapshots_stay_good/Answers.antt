use Rattle.dbn_core.proofs.GoodLaws.{good_at, good_grouped}
use Rattle.dbn_core.proofs.laws.good_snapshots_stay_good.Goals as goal

pub returns-clause-firings : goal.returns-clause-firings
returns-clause-firings c = good_at

pub returns-clause-groups : goal.returns-clause-groups
returns-clause-groups c net s after members all ok good each made = good_grouped net 0 members s after all ok good each made
