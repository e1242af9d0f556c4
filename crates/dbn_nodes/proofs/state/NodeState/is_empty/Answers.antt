use Rattle.dbn_nodes.proofs.AnswerLaws.{project_empty, union_empty, diff_empty, both_then}
use Rattle.dbn_nodes.proofs.state.NodeState.is_empty.Goals as goal

pub returns-in-Diff-clause-value : goal.returns-in-Diff-clause-value
returns-in-Diff-clause-value g c = rw c.in-Diff.is (λ s t stands. both_then c.holds_all.ensures (diff_empty g.met.C.Ord.total g.met.C.Cell.exact _ _ s t stands.0 stands.1))

pub returns-in-Project-clause-value : goal.returns-in-Project-clause-value
returns-in-Project-clause-value g c = rw c.in-Project.is (λ s t stands. both_then c.is_empty.ensures (project_empty g.met.C.Ord.total g.met.C.Cell.exact _ c.in-Project.cols s stands))

pub returns-in-Union-clause-value : goal.returns-in-Union-clause-value
returns-in-Union-clause-value g c = rw c.in-Union.is (λ s t stands. both_then c.is_empty-in-Union.ensures (union_empty g.met.C.Ord.total g.met.C.Cell.exact _ s t stands))
