use Rattle.std.proofs.Common.{◌++◌, ◌∷◌, [], ap, sym, ◌∙◌}
use Rattle.std.specs.Prelude.{slice_get}
use Rattle.dbn_nodes.specs.declared.node.ColTest.TheVariants as test
use Rattle.dbn_plan.proofs.ComparingLaws.{column_fits}
use Rattle.dbn_plan.proofs.ComparisonMade.{column_made}
use Rattle.dbn_plan.proofs.comparison.column_compared.Goals as goal

pub selected-requires-clause-there : goal.selected-requires-clause-there
selected-requires-clause-there g c = c.requires.placed.there

pub selected-requires-clause-fits : goal.selected-requires-clause-fits
selected-requires-clause-fits g c =
    column_fits c.args.network.now c.args.at.now.node c.args.at.now.labels c.requires.placed c.args.cmp c.args.left.now c.column_of.result c.in_ok-cell.cell c.push.new.self
    (ap (λ ls. slice_get ls c.column_of.result) (sym c.as_slice.ensures) ∙ c.column_of.ensures)
    (c.in_ok-push.ensures.ok ∙ ap (λ ts. ts ++ test.Constant c.args.cmp c.column_of.result c.in_ok-cell.cell ∷ []) c.new-tests.ensures)

pub returns : goal.returns
returns g c =
    column_made g.P.Cell.Ord.cmp g.P.Cell.Cell.int_of (g.P.Coder.cell_of c.args.coder.now) c.args.cmp c.args.left.now c.args.right.now c.args.network.now c.selected.new.network c.args.at.now.node c.args.at.now.labels
    c.column_of.result c.in_ok-cell.cell c.push.new.self c.in_ok-made.made c.requires.placed
    (ap (λ ls. slice_get ls c.column_of.result) (sym c.as_slice.ensures) ∙ c.column_of.ensures) c.in_ok-cell.ensures
    (c.in_ok-push.ensures.ok ∙ ap (λ ts. ts ++ test.Constant c.args.cmp c.column_of.result c.in_ok-cell.cell ∷ []) c.new-tests.ensures)
    c.in_ok-made.ensures
