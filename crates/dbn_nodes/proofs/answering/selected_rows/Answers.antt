use Rattle.std.proofs.Common.{rules, ◌≡◌, ◌++◌}
use Rattle.std.specs.List.{list_all}
use Rattle.dbn_nodes.specs.Changes.{maybe}
use Rattle.dbn_nodes.specs.Values.{passes}
use Rattle.dbn_nodes.proofs.AnswerLaws.{filter_step}
use Rattle.dbn_nodes.proofs.answering.selected_rows.Goals as goal

pub loop-row-preserved : goal.loop-row-preserved
loop-row-preserved g c =
    let made : c.push_copy.new.out ≡ c.loop-row.out ++ maybe (list_all (passes g.C.Ord.cmp c.row-item.result) c.args.tests.now) c.row-item.result = search rules in
    filter_step (λ row. list_all (passes g.C.Ord.cmp row) c.args.tests.now) c.args.lefts.now c.loop-row.row-index c.row-item.result c.loop-row.out c.push_copy.new.out c.loop-row-test.true c.row-item.is c.loop-row.invariant made
