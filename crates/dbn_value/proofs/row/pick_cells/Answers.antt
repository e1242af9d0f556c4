-- One more column: its cell is the one that the row has there.
use Rattle.std.proofs.Common.{◌<◌, ◌++◌, [], ◌∷◌, length, get_or, refl, sym, ap, ◌∙◌, if◌then◌else◌, is_ok}
use Rattle.std.proofs.lemmas.Option.{slice_get_read}
use Rattle.dbn_value.proofs.Rows.{picked_more}
use Rattle.dbn_value.proofs.row.pick_cells.Goals as goal

pub loop-column-preserved : goal.loop-column-preserved
loop-column-preserved g c =
    let cells = c.args.cells.now in
    let columns = c.args.columns.now in
    let i = c.loop-column.column-index in
    let within : get_or columns i 0 < length cells = c.requires i 0 c.loop-column-test.true in
    let here = slice_get_read cells (length cells) (get_or columns i 0) c.index-cells-column.result refl within c.index-cells-column.is in
    let more = picked_more columns cells i c.index-cells-column.result c.loop-column-test.true here in
    c.push.ensures.items ∙ ap (λ b. if b then c.loop-column.chosen.items ++ c.in_ok-copy_in.field-0 ∷ [] else c.loop-column.chosen.items) (ap is_ok c.in_ok-push.was) ∙ (λ j. c.loop-column.invariant j ++ c.in_ok-copy_in.ensures j ∷ []) ∙ sym more
