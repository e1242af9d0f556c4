use Rattle.std.proofs.Common.{◌≡◌, inl, inr, subst, ◌∙◌, get_or, arith}
use Rattle.dbn_network.specs.Inputs.{left_in, right_in}
use Rattle.dbn_network.specs.declared.input.Input.TheVariants as input
use Rattle.dbn_network.proofs.PassLaws.{same_inside, at_any}
use Rattle.dbn_network.proofs.WalkLaws.{walk_start, walk_next, walk_step, walk_passed, walk_costs, walk_quiet}
use Rattle.dbn_network.proofs.pass.pass.Goals as goal

pub loop-node-init : goal.loop-node-init
loop-node-init g c = walk_start g.met.C.Ord.total g.met.C.Cell.exact c.args.states.now.items c.args.feed c.args.event.now c.requires.earlier c.args.walk.now c.args.made.now.items c.args.steps.now c.requires.walk c.requires.many c.requires.none

pub index_mut-requires : goal.index_mut-requires
index_mut-requires g c =
    let found = walk_next g.met.C.Ord.total g.met.C.Cell.exact c.args.states.now.items c.args.feed c.args.event.now c.requires.earlier c.args.walk.now c.loop-node.node-index (get_or c.args.walk.now c.loop-node.node-index 0) c.loop-node.states.items c.loop-node.made.items c.args.steps.now c.loop-node.steps c.loop-node-test.true (same_inside c.args.walk.now c.loop-node.node-index 0 (get_or c.args.walk.now c.loop-node.node-index 0) c.loop-node-test.true) c.loop-node.invariant in
    let count = found.walking.so.alike.size in
    let within = found.within in
    omega arith

pub step-requires : goal.step-requires
step-requires g c =
    let found = walk_next g.met.C.Ord.total g.met.C.Cell.exact c.args.states.now.items c.args.feed c.args.event.now c.requires.earlier c.args.walk.now c.loop-node.node-index (get_or c.args.walk.now c.loop-node.node-index 0) c.loop-node.states.items c.loop-node.made.items c.args.steps.now c.loop-node.steps c.loop-node-test.true (same_inside c.args.walk.now c.loop-node.node-index 0 (get_or c.args.walk.now c.loop-node.node-index 0) c.loop-node-test.true) c.loop-node.invariant in
    let within = found.within in
    let size = found.walking.size in
    let lent = c.as_slice.ensures.value in
    let same = c.index_mut.ensures.value ∙ found.walking.so.untouched (get_or c.args.walk.now c.loop-node.node-index 0) c.index_mut.result.now (omega arith) in
    record {
      left = λ k r. rw lent (let lower = c.requires.earlier (get_or c.args.walk.now c.loop-node.node-index 0) c.index_mut.result.now within k (inl (subst (λ s. left_in s.state.node ≡ input.Earlier k) same r)) in omega arith);
      right = λ k r. rw lent (let lower = c.requires.earlier (get_or c.args.walk.now c.loop-node.node-index 0) c.index_mut.result.now within k (inr (subst (λ s. right_in s.state.node ≡ input.Earlier k) same r)) in omega arith);
    }

pub put-requires : goal.put-requires
put-requires g c =
    let found = walk_next g.met.C.Ord.total g.met.C.Cell.exact c.args.states.now.items c.args.feed c.args.event.now c.requires.earlier c.args.walk.now c.loop-node.node-index (get_or c.args.walk.now c.loop-node.node-index 0) c.loop-node.states.items c.loop-node.made.items c.args.steps.now c.loop-node.steps c.loop-node-test.true (same_inside c.args.walk.now c.loop-node.node-index 0 (get_or c.args.walk.now c.loop-node.node-index 0) c.loop-node-test.true) c.loop-node.invariant in
    let within = found.within in
    let size = found.walking.size in
    omega arith

pub loop-node-preserved : goal.loop-node-preserved
loop-node-preserved g c =
    let found = walk_next g.met.C.Ord.total g.met.C.Cell.exact c.args.states.now.items c.args.feed c.args.event.now c.requires.earlier c.args.walk.now c.loop-node.node-index (get_or c.args.walk.now c.loop-node.node-index 0) c.loop-node.states.items c.loop-node.made.items c.args.steps.now c.loop-node.steps c.loop-node-test.true (same_inside c.args.walk.now c.loop-node.node-index 0 (get_or c.args.walk.now c.loop-node.node-index 0) c.loop-node-test.true) c.loop-node.invariant in
    let count = found.walking.so.alike.size in
    let within = found.within in
    let is = at_any c.loop-node.states.items (get_or c.args.walk.now c.loop-node.node-index 0) c.index_mut.result.now c.index_mut.ensures.value (omega arith) in
    let ran = rw c.as_slice.ensures.value at c.in_ok-events.ensures.ok in
    rw c.put.ensures (walk_step g.met.C.Ord.total g.met.C.Cell.exact c.args.states.now.items c.args.feed c.args.event.now c.requires.earlier c.args.walk.now c.loop-node.node-index (get_or c.args.walk.now c.loop-node.node-index 0) c.loop-node.states.items c.loop-node.made.items c.index_mut.result.now c.step.new.held c.in_ok-events.events
    c.args.steps.now c.loop-node.steps c.step.new.steps found is ran)

pub returns-clause-nodes : goal.returns-clause-nodes
returns-clause-nodes g c = c.loop-node.invariant.walking.so.alike

pub returns-clause-ok : goal.returns-clause-ok
returns-clause-ok g c = walk_passed g.met.C.Ord.total g.met.C.Cell.exact c.args.states.now.items c.args.feed c.args.event.now c.requires.earlier c.args.walk.now c.loop-node.node-index c.loop-node.states.items c.loop-node.made.items c.args.steps.now c.loop-node.steps (let past = c.loop-node-test.false in omega arith) c.loop-node.invariant

pub returns-clause-cost : goal.returns-clause-cost
returns-clause-cost g c = walk_costs g.met.C.Ord.total g.met.C.Cell.exact c.args.states.now.items c.args.feed c.args.event.now c.requires.earlier c.args.walk.now c.loop-node.node-index c.loop-node.states.items c.loop-node.made.items c.args.steps.now c.loop-node.steps (let past = c.loop-node-test.false in omega arith) c.loop-node.invariant

pub returns-clause-many : goal.returns-clause-many
returns-clause-many g c = c.loop-node.invariant.walking.size

pub returns-clause-made : goal.returns-clause-made
returns-clause-made g c = walk_quiet g.met.C.Ord.total g.met.C.Cell.exact c.args.states.now.items c.args.feed c.args.event.now c.requires.earlier c.args.walk.now c.loop-node.node-index c.loop-node.states.items c.loop-node.made.items c.args.steps.now c.loop-node.steps c.requires.walk c.loop-node.invariant
