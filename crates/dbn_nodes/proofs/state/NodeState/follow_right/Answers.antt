use Rattle.dbn_nodes.proofs.state.NodeState.follow_right.Goals as goal

pub returns-in-Join-clause-stands : goal.returns-in-Join-clause-stands
returns-in-Join-clause-stands g c = rw c.in-Join.is (c.in_ok-follow_join_right-in-Join.ensures.stands c.in-Join.left c.in-Join.right)

pub returns-in-Diff-clause-stands : goal.returns-in-Diff-clause-stands
returns-in-Diff-clause-stands g c = rw c.in-Diff.is (c.in_ok-follow_diff_right-in-Diff.ensures.stands c.in-Diff.left c.in-Diff.right)

pub returns-in-Union-clause-stands : goal.returns-in-Union-clause-stands
returns-in-Union-clause-stands g c = rw c.in-Union.is (c.in_ok-follow_union-in-Union.ensures.stands_right c.in-Union.left c.in-Union.right)
