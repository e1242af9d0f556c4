use Rattle.std.proofs.Common.{arith, ◌+◌, ◌<◌, ◌≤◌, ◌^◌}
use Rattle.dbn_value.specs.Order.{row_cmp}
use Rattle.dbn_marking.specs.Counts.{count_at}
use Rattle.dbn_slow.proofs.LoopLaws.{in_index, full_here, full_behind}
use Rattle.dbn_slow.proofs.tokens.full_place.Goals as goal

pub count-room-requires : goal.count-room-requires
count-room-requires c = (c.requires c.give-item.result (in_index c.args.gives.now c.loop-give.give-index c.give-item.result c.loop-give-test.true c.give-item.is)).0

pub returns-then-give-from : goal.returns-then-give-from
returns-then-give-from c =
    let give = c.give-item.result in
    let told = c.if-give-from.true in
    let from = c.from.ensures in
    let value = c.count-room.ensures.value in
    let small = c.count-room.ensures.small in
    let over : 2 ^ 32 ≤ count_at row_cmp c.args.marking.now give.place give.row + give.many = omega (arith, told, from, value, small) in
    full_here c.args.gives.now c.loop-give.give-index give c.args.marking.now _ c.loop-give-test.true c.give-item.is over c.loop-give.invariant

pub loop-give-preserved : goal.loop-give-preserved
loop-give-preserved c =
    let give = c.give-item.result in
    let told = c.if-give-from.false in
    let from = c.from.ensures in
    let value = c.count-room.ensures.value in
    let small = c.count-room.ensures.small in
    let within : count_at row_cmp c.args.marking.now give.place give.row + give.many < 2 ^ 32 = omega (arith, told, from, value, small) in
    full_behind c.args.gives.now c.loop-give.give-index give c.args.marking.now _ c.loop-give-test.true c.give-item.is within c.loop-give.invariant
