use Rattle.std.proofs.Common.{rules, ◌≡◌, [], ◌∷◌, ◌++◌, take, ap, sym, ◌∙◌, append_assoc}
use Rattle.std.specs.BTreeSet.{insert_key}
use Rattle.dbn_value.specs.Ascending.{ascending}
use Rattle.dbn_value.specs.Order.{row_cmp, rows_total, exact_rows}
use Rattle.dbn_value.proofs.AscendingLaws.{ascending_push}
use Rattle.dbn_scratch.specs.Given.{row_of, rows_of}
use Rattle.dbn_scratch.proofs.LoopLaws.{map_step}
use Rattle.dbn_scratch.proofs.answering.add_rows.Goals as goal

pub loop-row-preserved : goal.loop-row-preserved
loop-row-preserved c = λ before e.
    let i = c.loop-row.row-index in
    let rows = c.args.rows.now in
    let row = row_of c.row-item.result.items in
    let is : c.insert.new.self.keys ≡ insert_key row_cmp c.loop-row.set.keys (row_of c.row-item.result.items) = search rules in
    is ∙ ap (λ ks. insert_key row_cmp ks row) (c.loop-row.invariant before e)
    ∙ sym (ascending_push rows_total exact_rows row (before ++ rows_of (take i rows)))
    ∙ ap (ascending row_cmp) (append_assoc before (rows_of (take i rows)) (row ∷ []) ∙ ap (λ rs. before ++ rs) (map_step (λ r. row_of r.items) rows i c.row-item.result c.loop-row-test.true c.row-item.is))
