use Rattle.std.proofs.Common.{◌≡◌, ◌+◌, ◌++◌, [], ◌∷◌, ◌∙◌, take, refl, ap, sym, subst}
use Rattle.std.proofs.lemmas.List.{take_all, take_more}
use Rattle.dbn_value.specs.declared.value.Value.{Value}
use Rattle.dbn_plan.specs.Columns.{HaveCells}
use Rattle.dbn_plan.proofs.TopLaws.{no_cells, one_more_cell}
use Rattle.dbn_plan.proofs.top.put_all.Goals as goal

pub loop-value-init : goal.loop-value-init
loop-value-init g c = (λ v d e. e, no_cells (g.P.Coder.cell_of c.args.coder.now) [] refl)

pub loop-value-preserved : goal.loop-value-preserved
loop-value-preserved g c =
    let values = c.args.values.now in
    let i = c.loop-value.value-index in
    let value = c.value-item.result in
    let more : take (i + 1) values ≡ take i values ++ value ∷ [] = take_more values i value c.loop-value-test.true ∙ ap (λ (v : Value). take i values ++ v ∷ []) (sym c.value-item.is) in
    one_more_cell (g.P.Coder.cell_of c.args.coder.now) (g.P.Coder.cell_of c.loop-value.coder) (g.P.Coder.cell_of c.put.new.self) (take i values) (take (i + 1) values) value c.in_ok-put.field-0 more
    c.loop-value.invariant c.in_ok-put.ensures.grows c.in_ok-put.ensures.cell

pub returns-clause-cells : goal.returns-clause-cells
returns-clause-cells g c = subst (HaveCells (g.P.Coder.cell_of c.loop-value.coder)) (take_all c.loop-value.value-index c.args.values.now c.loop-value-test.false) c.loop-value.invariant.1
