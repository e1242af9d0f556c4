use Rattle.dbn_store.proofs.Replays.{store_more}
use Rattle.dbn_store.proofs.laws.one_more_body_is_one_more_group.Goals as goal

pub returns : goal.returns
returns c = store_more
