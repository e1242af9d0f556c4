use Rattle.std.proofs.Common.{subst}
use Rattle.dbn_network.specs.Inputs.{right_in}
use Rattle.dbn_network.specs.Passes.{events_from, RunsRight}
use Rattle.dbn_network.proofs.RunLaws.{stepped}
use Rattle.dbn_network.proofs.step.step.Goals as goal

pub returns-clause-ok : goal.returns-clause-ok
returns-clause-ok g c =
    stepped g.met.C.Ord.total g.met.C.Cell.exact c.args.held.now c.run_left.new.held c.run_right.new.held _ _ c.run_left.new.out c.run_right.new.out c.args.steps.now c.run_left.new.steps c.run_right.new.steps
    (rw c.new-out.ensures at c.in_ok-run_left.ensures.ok)
    (subst (λ n. RunsRight g.C.Ord.cmp c.run_left.new.held c.run_right.new.held (events_from c.args.feed c.args.event.now c.args.all.now (right_in n)) c.run_left.new.out c.run_right.new.out c.run_left.new.steps c.run_right.new.steps) c.run_left.ensures.same.node c.in_ok-run_right.ensures.ok)
