use Rattle.std.proofs.Common.{rules}
use Rattle.dbn_reader.proofs.WrittenLaws.{found_none, found_some}
use Rattle.dbn_net.specs.Naming.{resolved}
use Rattle.dbn_reader.proofs.judging.check_resolved.Goals as goal

pub returns-in-None : goal.returns-in-None
returns-in-None c = found_none c.args.net.now (resolved c.args.net.now c.args.written) (search rules)

pub returns-in-Some : goal.returns-in-Some
returns-in-Some c = found_some c.args.net.now (resolved c.args.net.now c.args.written) c.in-Some.entry c.passed.result (search rules) c.passed.ensures
