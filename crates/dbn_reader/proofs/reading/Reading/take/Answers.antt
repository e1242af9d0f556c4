use Rattle.std.proofs.lemmas.Result.{err_from_is_err_and}
use Rattle.dbn_reader.specs.Reading.{state_of}
use Rattle.dbn_reader.proofs.ReadingLaws.{may_stand, turn, one_fails}
use Rattle.dbn_reader.proofs.reading.Reading.take.Goals as goal

pub enter-requires : goal.enter-requires
enter-requires c = may_stand (state_of c.args.self.now) c.args.one.now c.in_ok-entry.entry c.requires.reached c.requires.depth c.in_ok-entry.ensures

pub returns-in_err-entry : goal.returns-in_err-entry
returns-in_err-entry c =
    let p = err_from_is_err_and c.from_residual.result c.from_residual.ensures.1 in
    let fails = one_fails (state_of c.args.self.now) c.args.one.now c.in_err-entry.field-0.0 c.in_err-entry.ensures in
    record { read = rw (p.1, p.2) fails; reached = rw p.1 tt }

pub returns : goal.returns
returns c =
    let t = turn (state_of c.args.self.now) (state_of c.enter.new.self) c.args.one.now c.in_ok-entry.entry c.requires.reached c.requires.depth c.in_ok-entry.ensures c.in_ok-enter.ensures in
    record { read = t.0; reached = t.1 }
