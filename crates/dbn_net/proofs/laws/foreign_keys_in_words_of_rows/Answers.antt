use Rattle.dbn_net.proofs.NetKeys.{foreign_says}
use Rattle.dbn_net.proofs.laws.foreign_keys_in_words_of_rows.Goals as goal

pub returns : goal.returns
returns c = foreign_says
