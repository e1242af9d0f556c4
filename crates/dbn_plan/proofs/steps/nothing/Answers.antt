use Rattle.dbn_plan.proofs.StepsMade.{diff_fits, none_made}
use Rattle.dbn_plan.proofs.steps.nothing.Goals as goal

pub add-requires-clause-fits : goal.add-requires-clause-fits
add-requires-clause-fits g c = diff_fits c.args.network.now c.args.at.now.node c.args.at.now.labels c.args.at.now.node c.requires.placed c.requires.placed

pub returns : goal.returns
returns g c = none_made g.C.Ord.cmp g.C.Cell.int_of c.args.network.now c.add.new.self c.args.at.now.node c.args.at.now.labels c.in_ok-made.made c.requires.placed c.in_ok-made.ensures.ok c.in_ok-made.ensures.number
