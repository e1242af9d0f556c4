use Rattle.std.proofs.Common.{◌++◌, [], ◌∷◌, ap, ◌∙◌, subst}
use Rattle.dbn_plan.specs.Comparing.{AddedFor}
use Rattle.dbn_plan.proofs.ComparisonMade.{extend_fits, equated_made}
use Rattle.dbn_plan.proofs.comparison.equal_to.Goals as goal

pub add-requires-clause-fits : goal.add-requires-clause-fits
add-requires-clause-fits g c = extend_fits (g.P.Coder.cell_of c.args.coder.now) c.args.network.now c.args.at.now.node c.args.at.now.labels c.args.by.now c.in_ok-with.with c.requires.placed (subst (λ ls. AddedFor (g.P.Coder.cell_of c.args.coder.now) ls c.args.by.now c.in_ok-with.with) c.as_slice.ensures c.in_ok-with.ensures)

pub returns : goal.returns
returns g c =
    equated_made g.P.Cell.Ord.cmp g.P.Cell.Cell.int_of (g.P.Coder.cell_of c.args.coder.now) c.args.by.now c.args.added.now c.in_ok-with.with c.args.network.now c.add.new.self c.args.at.now.node c.args.at.now.labels
    c.in_ok-node.node c.push.new.self c.requires.known c.requires.unknown (subst (λ ls. AddedFor (g.P.Coder.cell_of c.args.coder.now) ls c.args.by.now c.in_ok-with.with) c.as_slice.ensures c.in_ok-with.ensures) c.requires.placed c.in_ok-node.ensures.ok c.in_ok-node.ensures.number
    (c.in_ok-push.ensures.ok ∙ ap (λ ls. ls ++ c.in_ok-copy_in.field-0 ∷ []) c.in_ok-labels.ensures ∙ ap (λ a. c.args.at.now.labels ++ a ∷ []) c.in_ok-copy_in.ensures)
