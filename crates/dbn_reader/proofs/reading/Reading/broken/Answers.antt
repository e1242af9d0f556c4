use Rattle.dbn_reader.specs.Reading.{state_of}
use Rattle.dbn_reader.proofs.ReadingLaws.{has_shapes}
use Rattle.dbn_reader.proofs.reading.Reading.broken.Goals as goal

pub first_broken-requires : goal.first_broken-requires
first_broken-requires c = has_shapes (state_of c.args.self.now) c.requires
