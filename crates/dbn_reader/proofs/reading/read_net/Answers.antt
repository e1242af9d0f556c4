use Rattle.dbn_net.specs.Texts.{reads}
use Rattle.dbn_reader.proofs.StartLaws.{good_read, light_read, start_read, fault_read}
use Rattle.dbn_reader.proofs.reading.read_net.Goals as goal

pub returns-clause-good : goal.returns-clause-good
returns-clause-good c = good_read c.args.bytes.now c.read_text.result c.read_text.ensures.exact c.read_text.ensures.fired

pub returns-clause-light : goal.returns-clause-light
returns-clause-light c = light_read c.args.bytes.now c.read_text.result c.read_text.ensures.exact

pub returns-clause-read : goal.returns-clause-read
returns-clause-read c = start_read c.read_text.result (reads c.args.bytes.now) c.read_text.ensures.exact

pub returns-clause-fault : goal.returns-clause-fault
returns-clause-fault c = fault_read c.read_text.result (reads c.args.bytes.now) c.read_text.ensures.exact
