use Rattle.dbn_plan.proofs.StepsMade.{joined_unit}
use Rattle.dbn_plan.proofs.steps.joined.Goals as goal

pub returns-then-at-sources : goal.returns-then-at-sources
returns-then-at-sources g c =
    joined_unit g.C.Ord.cmp g.C.Cell.int_of c.args.network.now c.args.sources.now c.args.at.now.node c.args.at.now.labels c.args.other c.args.others.now c.in_ok-copy_in.field-0 c.requires.sources c.if-at-sources.true c.requires.placed c.requires.other c.in_ok-copy_in.ensures
