use Rattle.std.proofs.Common.{subst}
use Rattle.dbn_formula.specs.Solutions.{AcceptsQuery}
use Rattle.dbn_plan.proofs.TestedLaws.{tested_open, tested_after}
use Rattle.dbn_plan.proofs.tests.compiled.Goals as goal

pub compile-requires-clause-open : goal.compile-requires-clause-open
compile-requires-clause-open c = tested_open c.args.network.now c.requires.ready

pub compile-requires-clause-accepted : goal.compile-requires-clause-accepted
compile-requires-clause-accepted c = subst (λ rs. AcceptsQuery rs c.args.vars.now c.args.f.now) c.rels.ensures (c.in_ok-is_accepted.ensures c.if-not-branch.false)

pub returns-clause-ready : goal.returns-clause-ready
returns-clause-ready c = tested_after c.args.network.now c.compile.new.network c.in_ok-node.ensures.grown c.requires.ready

pub returns-clause-range : goal.returns-clause-range
returns-clause-range c = c.in_ok-node.ensures.range
