use Rattle.std.proofs.lemmas.Result.{err_from_is_err_and}
use Rattle.dbn_codec.specs.Reading.{row_at}
use Rattle.dbn_codec.proofs.Loops.{row_more, row_stops, row_done}
use Rattle.dbn_codec.proofs.decoding.row_at.Goals as goal

pub returns-in_err-value : goal.returns-in_err-value
returns-in_err-value c =
    let p = err_from_is_err_and c.from_residual-in_err-value.result c.from_residual-in_err-value.ensures.1 in
    rw (p.1, p.2) (row_stops c.in_err-value.field-0.0 c.loop-column.cells.items c.args.shape.now c.loop-column.column-index _ c.loop-column.rest.now (row_at c.args.shape.now c.args.bytes.now) c.loop-column-test.true c.in_err-value.ensures c.loop-column.invariant)

pub loop-column-preserved : goal.loop-column-preserved
loop-column-preserved c =
    rw c.in_ok-push.ensures.items (row_more c.loop-column.cells.items c.args.shape.now c.loop-column.column-index _ c.loop-column.rest.now c.in_ok-value.value c.in_ok-value.after.now (row_at c.args.shape.now c.args.bytes.now) c.loop-column-test.true c.in_ok-value.ensures c.loop-column.invariant)

pub returns : goal.returns
returns c = rw c.from_vec.ensures (row_done c.loop-column.cells.items c.args.shape.now c.loop-column.column-index c.loop-column.rest.now (row_at c.args.shape.now c.args.bytes.now) c.loop-column-test.false c.loop-column.invariant)
