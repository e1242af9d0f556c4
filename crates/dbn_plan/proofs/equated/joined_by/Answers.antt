use Rattle.std.proofs.Common.{◌≡◌, List, ℕ, [], ◌∷◌, ◌++◌, ap, sym, ◌∙◌, subst}
use Rattle.dbn_network.specs.States.{Fits, with_node}
use Rattle.dbn_nodes.specs.declared.node.Node.TheVariants as node
use Rattle.dbn_plan.proofs.AtomMade.{pairs_shared}
use Rattle.dbn_plan.proofs.StepsMade.{join_by_fits, joined_by_made}
use Rattle.dbn_plan.proofs.equated.joined_by.Goals as goal

pub add-requires-clause-fits : goal.add-requires-clause-fits
add-requires-clause-fits g c =
    subst (λ on. Fits c.args.network.now (node.Join c.args.at.now.node c.args.other on)) (sym c.in_ok-push.ensures.ok)
    (join_by_fits c.args.network.now c.args.at.now.node c.args.at.now.labels c.args.other c.args.others.now c.in_ok-on.on c.args.pair
    (pairs_shared c.args.at.now.labels c.args.others.now c.as_slice.result.now c.as_slice-2.result.now c.in_ok-on.on c.as_slice.ensures c.as_slice-2.ensures c.in_ok-on.ensures) c.requires.placed c.requires.other
    c.requires.left c.requires.right)

pub returns : goal.returns
returns g c =
    joined_by_made g.C.Ord.cmp g.C.Cell.int_of c.args.network.now c.add.new.self c.args.at.now.node c.args.at.now.labels c.args.other c.args.others.now c.in_ok-on.on c.args.pair c.in_ok-node.node c.append.new.self
    (pairs_shared c.args.at.now.labels c.args.others.now c.as_slice.result.now c.as_slice-2.result.now c.in_ok-on.on c.as_slice.ensures c.as_slice-2.ensures c.in_ok-on.ensures)
    (c.in_ok-node.ensures.ok ∙ ap (λ on. with_node c.args.network.now (node.Join c.args.at.now.node c.args.other on)) c.in_ok-push.ensures.ok) c.in_ok-node.ensures.number
    (c.in_ok-append.ensures ∙ ap (λ ls. ls ++ c.in_ok-copy_in.field-0) c.in_ok-labels.ensures ∙ ap (λ ts. c.args.at.now.labels ++ ts) c.in_ok-copy_in.ensures)
    c.requires.placed c.requires.other
