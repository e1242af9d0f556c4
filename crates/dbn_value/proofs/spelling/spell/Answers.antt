-- The spelling is read as the value again.
use Rattle.std.proofs.Common.{◌∙◌}
use Rattle.dbn_value.proofs.Spellings.{read_again}
use Rattle.dbn_value.proofs.spelling.spell.Goals as goal

pub returns-clause-read_again : goal.returns-clause-read_again
returns-clause-read_again c = read_again c.args.value.now c.from_vec.result (c.from_vec.ensures ∙ c.in_ok-bytes.ensures) c.in_range.ensures
