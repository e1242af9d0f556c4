use Rattle.std.proofs.Common.{◌∙◌, ap}
use Rattle.dbn_nodes.specs.Values.{selected, joined, extended}
use Rattle.dbn_nodes.proofs.AnswerLaws.{project_rows, union_rows, diff_rows, joins_with}
use Rattle.dbn_nodes.proofs.state.NodeState.rows.Goals as goal

pub returns-in-Unit : goal.returns-in-Unit
returns-in-Unit g c = rw c.in-Unit.is (λ s t good stands are. c.in_ok-rows-in-Unit.ensures)

pub returns-in-Scan : goal.returns-in-Scan
returns-in-Scan g c = rw c.in-Scan.is (λ s t good stands are. c.in_ok-rows-in-Scan.ensures ∙ are)

pub returns-in-Select : goal.returns-in-Select
returns-in-Select g c = rw c.in-Select.is (λ s t good stands are. rw c.as_slice.ensures at c.in_ok-rows-in-Select.ensures ∙ ap (selected g.C.Ord.cmp c.in-Select.tests) are)

pub returns-in-Join : goal.returns-in-Join
returns-in-Join g c =
    rw c.in-Join.is (λ s t good stands are. (rw c.as_slice-in-Join.ensures at c.in_ok-rows-in-Join.ensures) t (joins_with g.met.C.Ord.total g.met.C.Cell.exact c.in-Join.left c.in-Join.right c.in-Join.on c.args.self.now.kept c.args.lefts.now s t good stands are)
    ∙ ap (λ rows. joined g.C.Ord.cmp c.in-Join.on rows t) are)

pub returns-in-Diff : goal.returns-in-Diff
returns-in-Diff g c =
    let found = c.in_ok-rows-in-Diff.ensures in
    rw c.in-Diff.is (λ s t good stands are. diff_rows g.met.C.Ord.total g.met.C.Cell.exact _ _ s t found.0 c.in_ok-rows-in-Diff.rows good.lefts stands.0 stands.1 found.1 found.2)

pub returns-in-Project : goal.returns-in-Project
returns-in-Project g c = rw c.in-Project.is (λ s t good stands are. project_rows g.met.C.Ord.total g.met.C.Cell.exact _ c.in-Project.cols s c.in_ok-rows-in-Project.rows stands c.in_ok-rows-in-Project.ensures)

pub returns-in-Union : goal.returns-in-Union
returns-in-Union g c = rw c.in-Union.is (λ s t good stands are. union_rows g.met.C.Ord.total g.met.C.Cell.exact _ s t c.in_ok-rows-in-Union.rows stands c.in_ok-rows-in-Union.ensures)

pub returns-in-Extend : goal.returns-in-Extend
returns-in-Extend g c = rw c.in-Extend.is (λ s t good stands are. c.in_ok-rows-in-Extend.ensures ∙ ap (extended g.C.Ord.cmp c.in-Extend.with) are)
