use Rattle.std.proofs.Common.{ap, sym, ◌∙◌}
use Rattle.dbn_formula.specs.Safe.{known}
use Rattle.dbn_plan.specs.Meaning.{vars_of}
use Rattle.dbn_plan.proofs.ComparisonMade.{test_ready, other_known, left_made, right_made, test_made}
use Rattle.dbn_plan.proofs.comparison.comparison.Goals as goal

pub equal_to-requires-clause-known : goal.equal_to-requires-clause-known
equal_to-requires-clause-known g c =
    other_known c.args.cmp c.args.left.now c.args.right.now (vars_of c.args.at.now.labels) (test_ready (g.P.Coder.cell_of c.args.coder.now) c.args.network.now.rels (vars_of c.args.at.now.labels) c.args.cmp c.args.left.now c.args.right.now c.requires.ready).0 (ap (λ ls. known (vars_of ls) c.args.left.now) (sym c.as_slice.ensures) ∙ sym c.is_known.ensures ∙ c.if-not-is_known.true)

pub equal_to-requires-clause-cells : goal.equal_to-requires-clause-cells
equal_to-requires-clause-cells g c = (test_ready (g.P.Coder.cell_of c.args.coder.now) c.args.network.now.rels (vars_of c.args.at.now.labels) c.args.cmp c.args.left.now c.args.right.now c.requires.ready).2

pub returns-then-not-is_known : goal.returns-then-not-is_known
returns-then-not-is_known g c consts =
    left_made c.args.cmp c.args.left.now c.args.right.now c.args.network.now c.equal_to.new.network c.args.at.now.node c.args.at.now.labels c.in_ok-made.made.node c.in_ok-made.made.labels (test_ready (g.P.Coder.cell_of c.args.coder.now) c.args.network.now.rels (vars_of c.args.at.now.labels) c.args.cmp c.args.left.now c.args.right.now c.requires.ready).0
    (ap (λ ls. known (vars_of ls) c.args.left.now) (sym c.as_slice.ensures) ∙ sym c.is_known.ensures ∙ c.if-not-is_known.true) c.in_ok-made.ensures

pub equal_to-requires-then-not-is_known-2-clause-cells : goal.equal_to-requires-then-not-is_known-2-clause-cells
equal_to-requires-then-not-is_known-2-clause-cells g c = (test_ready (g.P.Coder.cell_of c.args.coder.now) c.args.network.now.rels (vars_of c.args.at.now.labels) c.args.cmp c.args.left.now c.args.right.now c.requires.ready).1

pub returns-then-not-is_known-2 : goal.returns-then-not-is_known-2
returns-then-not-is_known-2 g c consts =
    right_made c.args.cmp c.args.left.now c.args.right.now c.args.network.now c.equal_to-then-not-is_known-2.new.network c.args.at.now.node c.args.at.now.labels c.in_ok-made-2.made.node c.in_ok-made-2.made.labels (test_ready (g.P.Coder.cell_of c.args.coder.now) c.args.network.now.rels (vars_of c.args.at.now.labels) c.args.cmp c.args.left.now c.args.right.now c.requires.ready).0
    (ap (λ ls. known (vars_of ls) c.args.left.now) (sym c.as_slice.ensures) ∙ sym c.is_known.ensures ∙ c.if-not-is_known.false)
    (ap (λ ls. known (vars_of ls) c.args.right.now) (sym c.as_slice-2.ensures) ∙ sym c.is_known-2.ensures ∙ c.if-not-is_known-2.true) c.in_ok-made-2.ensures

pub compared-requires-clause-left_cells : goal.compared-requires-clause-left_cells
compared-requires-clause-left_cells g c = (test_ready (g.P.Coder.cell_of c.args.coder.now) c.args.network.now.rels (vars_of c.args.at.now.labels) c.args.cmp c.args.left.now c.args.right.now c.requires.ready).1

pub compared-requires-clause-right_cells : goal.compared-requires-clause-right_cells
compared-requires-clause-right_cells g c = (test_ready (g.P.Coder.cell_of c.args.coder.now) c.args.network.now.rels (vars_of c.args.at.now.labels) c.args.cmp c.args.left.now c.args.right.now c.requires.ready).2

pub returns : goal.returns
returns g c = λ consts. test_made c.args.cmp c.args.left.now c.args.right.now c.args.network.now c.compared.new.network c.args.at.now.node c.args.at.now.labels c.in_ok-node.node c.in_ok-labels.labels
    (ap (λ ls. known (vars_of ls) c.args.left.now) (sym c.as_slice.ensures) ∙ sym c.is_known.ensures ∙ c.if-not-is_known.false)
    (ap (λ ls. known (vars_of ls) c.args.right.now) (sym c.as_slice-2.ensures) ∙ sym c.is_known-2.ensures ∙ c.if-not-is_known-2.false)
    c.in_ok-node.ensures c.in_ok-labels.ensures
