use Rattle.std.proofs.lemmas.Result.{err_from_is_err_and}
use Rattle.dbn_command.specs.Lines.{value_in}
use Rattle.dbn_command.proofs.Loops.{each_more, each_stops, each_done}
use Rattle.dbn_command.proofs.reading.row_in.Goals as goal

pub returns-in_err-value_in : goal.returns-in_err-value_in
returns-in_err-value_in c =
    let p = err_from_is_err_and c.from_residual-in_err-value_in.result c.from_residual-in_err-value_in.ensures.1 in
    rw (p.1, p.2) (each_stops value_in (λ t. t.now) _ c.loop-token.row.items c.args.tokens.now c.loop-token.token-index c.in_err-value_in.field-0.0 _ c.loop-token-test.true c.in_err-value_in.ensures c.loop-token.invariant)

pub loop-token-preserved : goal.loop-token-preserved
loop-token-preserved c =
    rw c.in_ok-push.ensures.items (each_more value_in (λ t. t.now) _ c.loop-token.row.items c.args.tokens.now c.loop-token.token-index _ c.in_ok-value_in.field-0 c.loop-token-test.true c.in_ok-value_in.ensures c.loop-token.invariant)

pub returns : goal.returns
returns c = rw c.from_vec.ensures (each_done value_in (λ t. t.now) _ c.loop-token.row.items c.args.tokens.now c.loop-token.token-index c.loop-token-test.false c.loop-token.invariant)
