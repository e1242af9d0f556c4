use Rattle.std.proofs.Common.{ap, Err}
use Rattle.dbn_command.proofs.NameLaws.{no_name}
use Rattle.dbn_command.proofs.reading.name_in.Goals as goal

pub returns-in-Err-Spelling : goal.returns-in-Err-Spelling
returns-in-Err-Spelling c = no_name c.args.token.now (c.in-Err-Spelling.ensures.spelling.0 (ap Err c.in-Err-Spelling.field-0-is))
