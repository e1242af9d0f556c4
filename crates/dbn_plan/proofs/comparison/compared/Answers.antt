use Rattle.std.proofs.Common.{IfOk}
use Rattle.std.proofs.lemmas.Result.{IfOk-weaker}
use Rattle.dbn_value.specs.declared.term.Term.TheVariants as term
use Rattle.dbn_plan.specs.Comparing.{Compared}
use Rattle.dbn_plan.proofs.ComparingLaws.{known_there, constant_cell, compared_back}
use Rattle.dbn_plan.proofs.comparison.compared.Goals as goal

pub columns_compared-requires-clause-left : goal.columns_compared-requires-clause-left
columns_compared-requires-clause-left g c = known_there c.args.at.now.labels c.args.left.now c.in-Var-Var.field-0-0 c.in-Var-Var.is-0 c.requires.left

pub columns_compared-requires-clause-right : goal.columns_compared-requires-clause-right
columns_compared-requires-clause-right g c = known_there c.args.at.now.labels c.args.right.now c.in-Var-Var.field-0-1 c.in-Var-Var.is-1 c.requires.right

pub column_compared-requires-clause-left : goal.column_compared-requires-clause-left
column_compared-requires-clause-left g c = known_there c.args.at.now.labels c.args.left.now c.in-Var-Const.field-0-0 c.in-Var-Const.is-0 c.requires.left

pub column_compared-requires-clause-cell : goal.column_compared-requires-clause-cell
column_compared-requires-clause-cell g c = constant_cell (g.P.Coder.cell_of c.args.coder.now) c.args.right.now c.in-Var-Const.value c.in-Var-Const.is-1 c.requires.right_cells

pub column_compared-requires-in-Const-Var-clause-left : goal.column_compared-requires-in-Const-Var-clause-left
column_compared-requires-in-Const-Var-clause-left g c = known_there c.args.at.now.labels c.args.right.now c.in-Const-Var.field-0-1 c.in-Const-Var.is-1 c.requires.right

pub column_compared-requires-in-Const-Var-clause-cell : goal.column_compared-requires-in-Const-Var-clause-cell
column_compared-requires-in-Const-Var-clause-cell g c = constant_cell (g.P.Coder.cell_of c.args.coder.now) c.args.left.now c.in-Const-Var.value c.in-Const-Var.is-0 c.requires.left_cells

pub returns-in-Const-Var : goal.returns-in-Const-Var
returns-in-Const-Var g c =
    let v = c.in-Const-Var.value in
    let told : IfOk c.column_compared-in-Const-Var.result (λ made. Compared g.P.Cell.Ord.cmp g.P.Cell.Cell.int_of (g.P.Coder.cell_of c.args.coder.now) c.turned.result c.args.right.now (term.Const v) c.args.network.now c.column_compared-in-Const-Var.new.network c.args.at.now.node c.args.at.now.labels made) = c.column_compared-in-Const-Var.ensures in
    IfOk-weaker c.column_compared-in-Const-Var.result
    (λ made. Compared g.P.Cell.Ord.cmp g.P.Cell.Cell.int_of (g.P.Coder.cell_of c.args.coder.now) c.turned.result c.args.right.now (term.Const v) c.args.network.now c.column_compared-in-Const-Var.new.network c.args.at.now.node c.args.at.now.labels made)
    (λ made. Compared g.P.Cell.Ord.cmp g.P.Cell.Cell.int_of (g.P.Coder.cell_of c.args.coder.now) c.args.cmp c.args.left.now c.args.right.now c.args.network.now c.column_compared-in-Const-Var.new.network c.args.at.now.node c.args.at.now.labels made)
    (λ made compared.
    compared_back g.P.Cell.Ord.cmp g.P.Cell.Cell.int_of (g.P.Coder.cell_of c.args.coder.now) c.args.cmp c.turned.result c.args.left.now c.args.right.now v c.args.network.now c.column_compared-in-Const-Var.new.network c.args.at.now.node c.args.at.now.labels made c.turned.ensures c.in-Const-Var.is-0 compared)
    told
