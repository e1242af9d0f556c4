use Rattle.std.proofs.lemmas.Result.{err_from_is_err_and}
use Rattle.dbn_reader.specs.Reading.{state_of}
use Rattle.dbn_reader.proofs.ReadingLaws.{none_read, next_depth, one_more_read, fault_read, all_read}
use Rattle.dbn_reader.proofs.reading.read_each.Goals as goal

pub loop-one-init : goal.loop-one-init
loop-one-init c = none_read c.args.list.now (state_of c.in_ok-reading.reading) c.in_ok-reading.ensures c.requires

pub take-requires : goal.take-requires
take-requires c = record {
  reached = c.loop-one.invariant.reached;
  depth = next_depth c.args.list.now c.loop-one.one-index c.one-item.result (state_of c.loop-one.reading) c.loop-one-test.true c.one-item.is c.loop-one.invariant;
}

pub loop-one-preserved : goal.loop-one-preserved
loop-one-preserved c =
    one_more_read c.args.list.now c.loop-one.one-index c.one-item.result (state_of c.loop-one.reading) (state_of c.take.new.self) c.loop-one-test.true c.one-item.is c.loop-one.invariant c.in_ok-take.ensures.read c.in_ok-take.ensures.reached

pub returns-in_err-take : goal.returns-in_err-take
returns-in_err-take c =
    let p = err_from_is_err_and c.from_residual-in_err-take.result c.from_residual-in_err-take.ensures.1 in
    let fails = fault_read c.args.list.now c.loop-one.one-index c.one-item.result (state_of c.loop-one.reading) c.in_err-take.field-0.0 c.loop-one-test.true c.one-item.is c.loop-one.invariant c.in_err-take.ensures.read in
    record { read = rw (p.1, p.2) fails; reached = rw p.1 tt }

pub returns : goal.returns
returns c = record {
  read = all_read c.args.list.now c.loop-one.one-index (state_of c.loop-one.reading) c.loop-one-test.false c.loop-one.invariant;
  reached = c.loop-one.invariant.reached;
}
