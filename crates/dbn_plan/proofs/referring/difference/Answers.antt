use Rattle.dbn_plan.proofs.StepLaws.{open_after, placed_after}
use Rattle.dbn_plan.proofs.StepsMade.{diff_fits}
use Rattle.dbn_plan.proofs.DeniedLaws.{difference_kept}
use Rattle.dbn_plan.proofs.ReferringLaws.{difference_made}
use Rattle.dbn_plan.proofs.referring.difference.Goals as goal

pub shown-requires-2-clause-open : goal.shown-requires-2-clause-open
shown-requires-2-clause-open g c = open_after c.args.network.now c.shown.new.network c.in_ok-from.ensures.grown c.requires.open

pub shown-requires-2-clause-placed : goal.shown-requires-2-clause-placed
shown-requires-2-clause-placed g c = placed_after c.args.network.now c.shown.new.network c.args.right.now.node c.args.right.now.labels c.in_ok-from.ensures.grown c.requires.right

pub add-requires-clause-fits : goal.add-requires-clause-fits
add-requires-clause-fits g c =
    diff_fits c.shown-2.new.network c.in_ok-from.from c.args.wanted c.in_ok-other.other
    (placed_after c.shown.new.network c.shown-2.new.network c.in_ok-from.from c.args.wanted c.in_ok-other.ensures.grown c.in_ok-from.ensures.placed) c.in_ok-other.ensures.placed

pub returns-clause-made : goal.returns-clause-made
returns-clause-made g c =
    difference_made g.C.Ord.cmp g.C.Cell.int_of c.args.network.now c.shown.new.network c.shown-2.new.network c.add.new.self c.args.left.now.node c.args.left.now.labels c.args.right.now.node c.args.right.now.labels
    c.in_ok-from.from c.in_ok-other.other c.in_ok-node.node c.args.wanted c.in_ok-from.ensures c.in_ok-other.ensures c.requires.right c.in_ok-node.ensures.ok c.in_ok-node.ensures.number

pub returns-clause-kept : goal.returns-clause-kept
returns-clause-kept g c = difference_kept c.shown-2.new.network c.add.new.self c.in_ok-from.from c.in_ok-other.other c.in_ok-node.node c.in_ok-node.ensures.ok c.in_ok-node.ensures.number
