use Rattle.std.proofs.Common.{ap, sym, ◌∙◌}
use Rattle.dbn_value.specs.Order.{meets}
use Rattle.dbn_plan.proofs.ComparisonMade.{always_made, never_made}
use Rattle.dbn_plan.proofs.comparison.constants_compared.Goals as goal

pub returns-then-meets : goal.returns-then-meets
returns-then-meets g c =
    always_made g.P.Cell.Ord.cmp g.P.Cell.Cell.int_of (g.P.Coder.cell_of c.args._coder.now) c.args.cmp c.args.left.now c.args.right.now c.args.network.now c.args.at.now.node c.args.at.now.labels c.requires.placed
    (ap (meets c.args.cmp) (sym c.compare.ensures) ∙ sym c.meets.ensures ∙ c.if-meets.true)

pub returns : goal.returns
returns g c =
    never_made g.P.Cell.Ord.cmp g.P.Cell.Cell.int_of (g.P.Coder.cell_of c.args._coder.now) c.args.cmp c.args.left.now c.args.right.now c.args.network.now c.nothing.new.network c.args.at.now.node c.args.at.now.labels c.in_ok-made.made
    (ap (meets c.args.cmp) (sym c.compare.ensures) ∙ sym c.meets.ensures ∙ c.if-meets.false) c.in_ok-made.ensures
