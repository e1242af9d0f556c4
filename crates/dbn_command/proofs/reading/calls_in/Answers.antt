use Rattle.std.proofs.Common.{map}
use Rattle.std.proofs.lemmas.Result.{err_from_is_err_and}
use Rattle.dbn_command.specs.Lines.{call_in}
use Rattle.dbn_command.proofs.Loops.{each_more, each_stops, each_done}
use Rattle.dbn_command.proofs.reading.calls_in.Goals as goal

pub returns-in_err-call_in : goal.returns-in_err-call_in
returns-in_err-call_in c =
    let p = err_from_is_err_and c.from_residual-in_err-call_in.result c.from_residual-in_err-call_in.ensures.1 in
    rw (p.1, p.2) (each_stops call_in (λ p. map (λ t. t.now) p.now) _ c.loop-part.calls.items c.args.parts.now c.loop-part.part-index c.in_err-call_in.field-0.0 _ c.loop-part-test.true c.in_err-call_in.ensures c.loop-part.invariant)

pub loop-part-preserved : goal.loop-part-preserved
loop-part-preserved c =
    rw c.in_ok-push.ensures.items (each_more call_in (λ p. map (λ t. t.now) p.now) _ c.loop-part.calls.items c.args.parts.now c.loop-part.part-index _ c.in_ok-call_in.field-0 c.loop-part-test.true c.in_ok-call_in.ensures c.loop-part.invariant)

pub returns : goal.returns
returns c = each_done call_in (λ p. map (λ t. t.now) p.now) _ c.loop-part.calls.items c.args.parts.now c.loop-part.part-index c.loop-part-test.false c.loop-part.invariant
