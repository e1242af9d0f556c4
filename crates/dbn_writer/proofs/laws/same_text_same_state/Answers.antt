use Rattle.dbn_writer.proofs.SameText.{same_text}
use Rattle.dbn_writer.proofs.laws.same_text_same_state.Goals as goal

pub returns : goal.returns
returns c = same_text
