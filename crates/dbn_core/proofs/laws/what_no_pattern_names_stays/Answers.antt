use Rattle.dbn_core.proofs.FiringLaws.{other_tokens}
use Rattle.dbn_core.proofs.laws.what_no_pattern_names_stays.Goals as goal

pub returns : goal.returns
returns c net s after n t row f place other ok good is fires = other_tokens net s n t row f after place other ok good is fires
