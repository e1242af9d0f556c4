use Rattle.dbn_nodes.proofs.state.NodeState.left.Goals as goal

pub returns-in-Scan-clause-leads : goal.returns-in-Scan-clause-leads
returns-in-Scan-clause-leads g c = rw c.in-Scan.is (c.in_ok-scan_left-in-Scan.ensures.leads c.in-Scan.feed)

pub returns-in-Select-clause-leads : goal.returns-in-Select-clause-leads
returns-in-Select-clause-leads g c = rw c.in-Select.is (c.in_ok-select_left-in-Select.ensures.leads c.in-Select.from)

pub returns-in-Join-clause-stands : goal.returns-in-Join-clause-stands
returns-in-Join-clause-stands g c = rw c.in-Join.is (c.in_ok-join_left-in-Join.ensures.stands c.in-Join.left c.in-Join.right)

pub returns-in-Join-clause-leads : goal.returns-in-Join-clause-leads
returns-in-Join-clause-leads g c = rw c.in-Join.is (c.in_ok-join_left-in-Join.ensures.leads c.in-Join.left c.in-Join.right)

pub returns-in-Diff-clause-stands : goal.returns-in-Diff-clause-stands
returns-in-Diff-clause-stands g c = rw c.in-Diff.is (c.in_ok-diff_left-in-Diff.ensures.stands c.in-Diff.left c.in-Diff.right)

pub returns-in-Diff-clause-leads : goal.returns-in-Diff-clause-leads
returns-in-Diff-clause-leads g c = rw c.in-Diff.is (c.in_ok-diff_left-in-Diff.ensures.leads c.in-Diff.left c.in-Diff.right)

pub returns-in-Project-clause-stands : goal.returns-in-Project-clause-stands
returns-in-Project-clause-stands g c = rw c.in-Project.is (c.in_ok-project_left-in-Project.ensures.stands c.in-Project.from)

pub returns-in-Project-clause-leads : goal.returns-in-Project-clause-leads
returns-in-Project-clause-leads g c = rw c.in-Project.is (c.in_ok-project_left-in-Project.ensures.leads c.in-Project.from)

pub returns-in-Union-clause-stands : goal.returns-in-Union-clause-stands
returns-in-Union-clause-stands g c = rw c.in-Union.is (c.in_ok-union-in-Union.ensures.stands_left c.in-Union.left c.in-Union.right)

pub returns-in-Union-clause-leads : goal.returns-in-Union-clause-leads
returns-in-Union-clause-leads g c = rw c.in-Union.is (c.in_ok-union-in-Union.ensures.leads_left c.in-Union.left c.in-Union.right)

pub returns-in-Extend-clause-leads : goal.returns-in-Extend-clause-leads
returns-in-Extend-clause-leads g c = rw c.in-Extend.is (c.in_ok-extend_left-in-Extend.ensures.leads c.in-Extend.from)
