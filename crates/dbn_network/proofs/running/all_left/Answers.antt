use Rattle.std.proofs.Common.{arith, subst}
use Rattle.dbn_network.specs.Passes.{RunsLeft}
use Rattle.dbn_network.proofs.RunLaws.{left_start, left_step, take_whole}
use Rattle.dbn_network.proofs.running.all_left.Goals as goal

pub loop-event-init : goal.loop-event-init
loop-event-init g c = left_start g.met.C.Ord.total g.met.C.Cell.exact c.args.held.now c.args.out.now c.args.steps.now

pub loop-event-preserved : goal.loop-event-preserved
loop-event-preserved g c =
    left_step g.met.C.Ord.total g.met.C.Cell.exact c.args.held.now c.loop-event.held c.one_left.new.held c.args.events.now c.loop-event.event-index c.event-item.result c.args.out.now c.loop-event.out c.one_left.new.out
    c.args.steps.now c.loop-event.steps c.one_left.new.steps c.loop-event-test.true c.event-item.is c.loop-event.invariant
    (record { same = c.one_left.ensures.same; stands = c.in_ok-one_left.ensures.stands; leads = c.in_ok-one_left.ensures.leads; quiet = c.in_ok-one_left.ensures.quiet; cost = c.in_ok-one_left.ensures.cost })

pub returns-clause-ok : goal.returns-clause-ok
returns-clause-ok g c =
    subst (λ es. RunsLeft g.C.Ord.cmp c.args.held.now c.loop-event.held es c.args.out.now c.loop-event.out c.args.steps.now c.loop-event.steps)
    (take_whole c.args.events.now c.loop-event.event-index (let past = c.loop-event-test.false in omega arith)) c.loop-event.invariant
