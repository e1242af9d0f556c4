use Rattle.std.proofs.Common.{rules, ◌≡◌, ◌∷◌, map}
use Rattle.std.specs.List.{flat_map}
use Rattle.dbn_scratch.specs.Given.{row_of, rows_of}
use Rattle.dbn_scratch.proofs.TurnLaws.{column_more}
use Rattle.dbn_scratch.proofs.domains.rows_over.Goals as goal

pub loop-done-preserved : goal.loop-done-preserved
loop-done-preserved c =
    let made : rows_of c.in_ok-rows.rows ≡ flat_map (λ v. map (λ row. v.now ∷ row_of row.items) c.loop-done.rows) c.index-columns-columns.result.items = search rules in
    column_more c.args.columns.now c.loop-done.done c.index-columns-columns.result c.loop-done.rows (rows_of c.in_ok-rows.rows) c.loop-done-test.true c.index-columns-columns.is c.loop-done.invariant made
