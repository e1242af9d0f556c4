use Rattle.std.proofs.Common.{rules, ◌≡◌, ◌++◌, [], not, nat_lt}
use Rattle.std.specs.Cmp.Lexicographic.{slice_cmp}
use Rattle.dbn_nodes.specs.Changes.{maybe}
use Rattle.dbn_nodes.specs.Tables.{count_at}
use Rattle.dbn_nodes.proofs.AnswerLaws.{filter_step}
use Rattle.dbn_nodes.proofs.answering.missing_rows.Goals as goal

pub loop-row-preserved : goal.loop-row-preserved
loop-row-preserved g c =
    let made : c.push_copy.new.out ≡ c.loop-row.out ++ maybe (not (nat_lt 0 (count_at (slice_cmp g.C.Ord.cmp) c.args.table.now [] c.row-item.result))) c.row-item.result = search rules in
    filter_step (λ row. not (nat_lt 0 (count_at (slice_cmp g.C.Ord.cmp) c.args.table.now [] row))) c.args.lefts.now c.loop-row.row-index c.row-item.result c.loop-row.out c.push_copy.new.out c.loop-row-test.true c.row-item.is c.loop-row.invariant made
