use Rattle.dbn_net.proofs.KeyLaws.{key_says}
use Rattle.dbn_net.proofs.laws.keys_in_words_of_rows.Goals as goal

pub returns : goal.returns
returns c = λ rels rel fields db fits. key_says rels db rel fields fits
