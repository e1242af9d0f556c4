-- One value more.
use Rattle.std.proofs.Common.{◌++◌, [], ◌∷◌, take, Some, sym, ap, subst, ◌∙◌, if◌then◌else◌, is_ok}
use Rattle.dbn_value.specs.Coding.{cells_of}
use Rattle.dbn_value.specs.Members.{In}
use Rattle.dbn_value.proofs.CodingLaws.{cells_extend, cells_append}
use Rattle.dbn_value.proofs.ListLaws.{take_more, in_at}
use Rattle.dbn_value.proofs.coded.put_values.Goals as goal

pub loop-value-preserved : goal.loop-value-preserved
loop-value-preserved g c =
    let row = c.args.row.now in
    let i = c.loop-value.value-index in
    let xs = c.loop-value.cells.items in
    let before = g.P.Coder.cell_of c.loop-value.coder in
    let after = g.P.Coder.cell_of c.put.new.self in
    let old = cells_extend before after (take i row) xs c.in_ok-put.ensures.grows c.loop-value.invariant.cells in
    let more = cells_append after (take i row) xs c.value-item.result c.in_ok-put.field-0 old c.in_ok-put.ensures.cell in
    let items = c.push.ensures.items ∙ ap (λ b. if b then xs ++ c.in_ok-put.field-0 ∷ [] else xs) (ap is_ok c.in_ok-push.was) in
    let here = in_at row i c.value-item.result c.loop-value-test.true c.value-item.is in
    record {
      cells = ap (cells_of after) (take_more row i c.value-item.result c.loop-value-test.true c.value-item.is) ∙ more ∙ ap Some (sym items);
      grows = λ v d e. c.in_ok-put.ensures.grows v d (c.loop-value.invariant.grows v d e);
      alone = λ v out. c.in_ok-put.ensures.alone v (λ e. out (subst (λ w. In w row) (sym e) here)) ∙ c.loop-value.invariant.alone v out;
    }

pub returns-in_err-push-clause-alone : goal.returns-in_err-push-clause-alone
returns-in_err-push-clause-alone g c v out =
    let here = in_at c.args.row.now c.loop-value.value-index c.value-item.result c.loop-value-test.true c.value-item.is in
    c.in_ok-put.ensures.alone v (λ e. out (subst (λ w. In w c.args.row.now) (sym e) here)) ∙ c.loop-value.invariant.alone v out
