use Rattle.std.proofs.Common.{◌+◌, drop, sym, ap, ◌∙◌, subst}
use Rattle.dbn_value.specs.Order.{value_cmp}
use Rattle.dbn_core.specs.Moves.{CanGive, given_all}
use Rattle.dbn_slow.proofs.LoopLaws.{given_turn}
use Rattle.dbn_slow.proofs.tokens.give_all.Goals as goal

pub loop-give-preserved : goal.loop-give-preserved
loop-give-preserved c =
    let ws = c.args.gives.now in
    let i = c.loop-give.give-index in
    let turn = given_turn ws i c.give-item.result c.loop-give.marking c.loop-give-test.true c.give-item.is c.loop-give.invariant.0 in
    (subst (CanGive value_cmp (drop (i + 1) ws)) (sym c.in_ok-give_one.ensures) turn.can, ap (given_all value_cmp (drop (i + 1) ws)) c.in_ok-give_one.ensures ∙ sym turn.same ∙ c.loop-give.invariant.1)
