use Rattle.dbn_reader.specs.Reading.{state_of}
use Rattle.dbn_reader.proofs.ReadingLaws.{IsPartRead}
use Rattle.dbn_reader.proofs.reading.read_each.Given as goal

abbrev pub invariant-loop-one : goal.invariant-loop-one
invariant-loop-one l = IsPartRead l.list l.one-index (state_of l.reading)
