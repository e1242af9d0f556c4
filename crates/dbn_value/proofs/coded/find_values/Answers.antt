-- One value more, or one that has no cell.
use Rattle.std.proofs.Common.{◌+◌, ◌++◌, [], ◌∷◌, take, drop, Some, sym, ap, ◌∙◌, if◌then◌else◌, is_ok}
use Rattle.dbn_value.specs.Coding.{cells_of}
use Rattle.dbn_value.proofs.CodingLaws.{cells_append, cells_missing}
use Rattle.dbn_value.proofs.ListLaws.{take_more, whole}
use Rattle.dbn_value.proofs.coded.find_values.Goals as goal

pub returns-in-None : goal.returns-in-None
returns-in-None g c =
    let row = c.args.row.now in
    let i = c.loop-value.value-index in
    sym (ap (cells_of (g.P.Coder.cell_of c.args.coder.now)) (whole row i c.value-item.result c.loop-value-test.true c.value-item.is)
    ∙ cells_missing (g.P.Coder.cell_of c.args.coder.now) (take i row) c.value-item.result (drop (i + 1) row) (sym c.in_ok-cell.ensures ∙ c.in-None.is))

pub loop-value-preserved : goal.loop-value-preserved
loop-value-preserved g c =
    let row = c.args.row.now in
    let i = c.loop-value.value-index in
    let xs = c.loop-value.cells.items in
    let more = cells_append (g.P.Coder.cell_of c.args.coder.now) (take i row) xs c.value-item.result c.in-Some.cell c.loop-value.invariant (sym c.in_ok-cell.ensures ∙ c.in-Some.is) in
    let items = c.push.ensures.items ∙ ap (λ b. if b then xs ++ c.in-Some.cell ∷ [] else xs) (ap is_ok c.in_ok-push-in-Some.was) in
    ap (cells_of (g.P.Coder.cell_of c.args.coder.now)) (take_more row i c.value-item.result c.loop-value-test.true c.value-item.is) ∙ more ∙ ap Some (sym items)
