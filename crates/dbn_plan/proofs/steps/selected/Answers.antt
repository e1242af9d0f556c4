use Rattle.dbn_plan.proofs.StepsMade.{select_fits, selected_none, selected_made}
use Rattle.dbn_plan.proofs.steps.selected.Goals as goal

pub returns-then-is_empty : goal.returns-then-is_empty
returns-then-is_empty g c = selected_none g.C.Ord.cmp c.args.network.now c.args.node c.args.tests (c.is_empty.ensures.0 c.if-is_empty.true)

pub add-requires-clause-fits : goal.add-requires-clause-fits
add-requires-clause-fits g c = select_fits c.args.network.now c.args.node c.args.tests c.requires.there c.requires.fits

pub returns : goal.returns
returns g c = selected_made g.C.Ord.cmp c.args.network.now c.add.new.self c.args.node c.args.tests c.in_ok-made.made c.in_ok-made.ensures.ok c.in_ok-made.ensures.number
