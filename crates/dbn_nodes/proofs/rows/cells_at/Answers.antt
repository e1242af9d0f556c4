use Rattle.std.proofs.Common.{◌++◌, ◌∙◌, [], take, sym, ap}
use Rattle.std.specs.List.{cons_option}
use Rattle.std.specs.Option.{option_copied}
use Rattle.dbn_value.specs.Picked.{picked}
use Rattle.dbn_nodes.proofs.RowLaws.{one_column}
use Rattle.dbn_nodes.proofs.rows.cells_at.Goals as goal

pub loop-column-preserved : goal.loop-column-preserved
loop-column-preserved g c =
    c.in_ok-push_cell.ensures
    ∙ ap (λ xs. xs ++ cons_option (option_copied c.get.result) []) c.loop-column.invariant
    ∙ ap (λ x. picked (take c.loop-column.column-index c.args.columns.now) c.args.row.now ++ cons_option x []) c.get.ensures
    ∙ sym (one_column c.args.columns.now c.args.row.now c.loop-column.column-index 0 c.loop-column-test.true)
