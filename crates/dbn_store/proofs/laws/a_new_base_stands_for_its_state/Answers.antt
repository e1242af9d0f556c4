use Rattle.dbn_store.proofs.Replays.{base_stands}
use Rattle.dbn_store.proofs.laws.a_new_base_stands_for_its_state.Goals as goal

pub returns : goal.returns
returns c = base_stands
