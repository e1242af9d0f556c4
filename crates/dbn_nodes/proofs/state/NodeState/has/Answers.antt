use Rattle.std.proofs.Common.{◌∙◌}
use Rattle.dbn_nodes.proofs.AnswerLaws.{unit_has, diff_has, project_has, union_has}
use Rattle.dbn_nodes.proofs.state.NodeState.has.Goals as goal

pub returns-in-Unit-clause-value : goal.returns-in-Unit-clause-value
returns-in-Unit-clause-value g c = rw c.in-Unit.is (λ s t stands. c.is_empty.ensures ∙ unit_has g.met.C.Ord.total g.met.C.Cell.exact c.args.row.now)

pub returns-in-Diff-clause-value : goal.returns-in-Diff-clause-value
returns-in-Diff-clause-value g c =
    rw c.in-Diff.is (λ s t stands. rw (c.holds-there.ensures.value, c.holds-gone.ensures.value) at c.alone.ensures ∙ diff_has g.met.C.Ord.total g.met.C.Cell.exact _ _ s t c.args.row.now stands.0 stands.1)

pub returns-in-Project-clause-value : goal.returns-in-Project-clause-value
returns-in-Project-clause-value g c = rw c.in-Project.is (λ s t stands. c.holds.ensures.value ∙ project_has g.met.C.Ord.total g.met.C.Cell.exact _ c.in-Project.cols s c.args.row.now stands)

pub returns-in-Union-clause-value : goal.returns-in-Union-clause-value
returns-in-Union-clause-value g c = rw c.in-Union.is (λ s t stands. c.holds-in-Union.ensures.value ∙ union_has g.met.C.Ord.total g.met.C.Cell.exact _ s t c.args.row.now stands)
