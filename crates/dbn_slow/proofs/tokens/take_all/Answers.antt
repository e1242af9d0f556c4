use Rattle.std.proofs.Common.{arith, ◌+◌, drop, sym, ap, ◌∙◌, subst}
use Rattle.dbn_value.specs.Order.{value_cmp}
use Rattle.dbn_core.specs.Moves.{CanTake, taken_all}
use Rattle.dbn_slow.proofs.LoopLaws.{taken_turn}
use Rattle.dbn_slow.proofs.tokens.take_all.Goals as goal

pub overflow_cast-want : goal.overflow_cast-want
overflow_cast-want c =
    let turn = taken_turn c.args.wants.now c.loop-want.want-index c.want-item.result c.loop-want.marking c.loop-want-test.true c.want-item.is c.loop-want.invariant.0 in
    let there = turn.there in
    let value = c.count-there.ensures.value in
    let small = c.count-there.ensures.small in
    omega (arith, there, value, small)

pub loop-want-preserved : goal.loop-want-preserved
loop-want-preserved c =
    let ws = c.args.wants.now in
    let i = c.loop-want.want-index in
    let turn = taken_turn ws i c.want-item.result c.loop-want.marking c.loop-want-test.true c.want-item.is c.loop-want.invariant.0 in
    (subst (CanTake value_cmp (drop (i + 1) ws)) (sym c.take.ensures.left) turn.can, ap (taken_all value_cmp (drop (i + 1) ws)) c.take.ensures.left ∙ sym turn.same ∙ c.loop-want.invariant.1)
