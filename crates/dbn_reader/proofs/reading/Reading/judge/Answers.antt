use Rattle.dbn_reader.specs.Reading.{state_of}
use Rattle.dbn_reader.proofs.ReadingLaws.{facts_length, places_length}
use Rattle.dbn_reader.proofs.reading.Reading.judge.Goals as goal

pub judged-requires-clause-facts : goal.judged-requires-clause-facts
judged-requires-clause-facts c = facts_length (state_of c.args.self.now) c.requires

pub judged-requires-clause-tokens : goal.judged-requires-clause-tokens
judged-requires-clause-tokens c = places_length (state_of c.args.self.now) c.requires
