use Rattle.dbn_command.proofs.CanonicalLaws.{line_again}
use Rattle.dbn_command.proofs.laws.canonical_lines_are_read_again.Goals as goal

pub returns : goal.returns
returns c = λ net folder command formed is. line_again net formed folder command is
