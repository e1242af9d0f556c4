use Rattle.dbn_nodes.proofs.state.NodeState.right.Goals as goal

pub returns-in-Join-clause-stands : goal.returns-in-Join-clause-stands
returns-in-Join-clause-stands g c = rw c.in-Join.is (c.in_ok-join_right-in-Join.ensures.stands c.in-Join.left c.in-Join.right)

pub returns-in-Join-clause-leads : goal.returns-in-Join-clause-leads
returns-in-Join-clause-leads g c = rw c.in-Join.is (c.in_ok-join_right-in-Join.ensures.leads c.in-Join.left c.in-Join.right)

pub returns-in-Diff-clause-stands : goal.returns-in-Diff-clause-stands
returns-in-Diff-clause-stands g c = rw c.in-Diff.is (c.in_ok-diff_right-in-Diff.ensures.stands c.in-Diff.left c.in-Diff.right)

pub returns-in-Diff-clause-leads : goal.returns-in-Diff-clause-leads
returns-in-Diff-clause-leads g c = rw c.in-Diff.is (c.in_ok-diff_right-in-Diff.ensures.leads c.in-Diff.left c.in-Diff.right)

pub returns-in-Union-clause-stands : goal.returns-in-Union-clause-stands
returns-in-Union-clause-stands g c = rw c.in-Union.is (c.in_ok-union-in-Union.ensures.stands_right c.in-Union.left c.in-Union.right)

pub returns-in-Union-clause-leads : goal.returns-in-Union-clause-leads
returns-in-Union-clause-leads g c = rw c.in-Union.is (c.in_ok-union-in-Union.ensures.leads_right c.in-Union.left c.in-Union.right)
