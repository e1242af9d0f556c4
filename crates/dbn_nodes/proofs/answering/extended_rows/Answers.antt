use Rattle.std.proofs.Common.{rules, ◌≡◌, ◌++◌, []}
use Rattle.std.specs.BTreeSet.{insert_key}
use Rattle.std.specs.Cmp.Lexicographic.{slice_cmp}
use Rattle.dbn_nodes.specs.Values.{added_cells}
use Rattle.dbn_nodes.proofs.AnswerLaws.{set_step}
use Rattle.dbn_nodes.proofs.answering.extended_rows.Goals as goal

pub loop-row-preserved : goal.loop-row-preserved
loop-row-preserved g c =
    let is : c.insert.new.self.keys ≡ insert_key (slice_cmp g.C.Ord.cmp) c.loop-row.longer.keys c.in_ok-with_last.field-0 = search rules in
    set_step g.met.C.Ord.total g.met.C.Cell.exact (λ row. row ++ added_cells c.args.with.now row) c.args.lefts.now c.loop-row.row-index c.row-item.result c.in_ok-with_last.field-0 c.loop-row.longer.keys c.insert.new.self.keys []
    c.loop-row-test.true c.row-item.is c.in_ok-with_last.ensures c.loop-row.invariant is
