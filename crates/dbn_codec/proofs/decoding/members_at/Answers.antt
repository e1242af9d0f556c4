use Rattle.std.proofs.lemmas.Result.{err_from_is_err_and}
use Rattle.dbn_codec.specs.Reading.{members_at}
use Rattle.dbn_codec.proofs.Loops.{members_more, members_stop, members_done}
use Rattle.dbn_codec.proofs.decoding.members_at.Goals as goal

pub returns-in_err-member : goal.returns-in_err-member
returns-in_err-member c =
    let p = err_from_is_err_and c.from_residual.result c.from_residual.ensures.1 in
    rw (p.1, p.2) (members_stop c.in_err-member.field-0.0 c.loop.members c.args.shapes.now c.args.count c.loop.counter c.loop.rest.now (members_at c.args.count c.args.shapes.now c.args.bytes.now) c.loop-test.true c.in_err-member.ensures c.loop.invariant)

pub loop-preserved : goal.loop-preserved
loop-preserved c =
    rw c.in_ok-push.ensures.ok (members_more c.loop.members c.args.shapes.now c.args.count c.loop.counter c.loop.rest.now c.in_ok-member.member c.in_ok-member.after.now (members_at c.args.count c.args.shapes.now c.args.bytes.now) c.loop-test.true c.in_ok-member.ensures c.loop.invariant)

pub returns : goal.returns
returns c = members_done c.loop.members c.args.shapes.now c.args.count c.loop.counter c.loop.rest.now (members_at c.args.count c.args.shapes.now c.args.bytes.now) c.loop-test.false c.loop.invariant
