use Rattle.dbn_plan.proofs.EasingLaws.{found_copied}
use Rattle.dbn_plan.proofs.easing.are_equated.Goals as goal

pub returns : goal.returns
returns c =
    found_copied c.args.equations.now.keys c.in_ok-left.left c.in_ok-right.right c.args.x.now c.args.y.now c.contains.result c.contains.ensures c.in_ok-left.ensures c.in_ok-right.ensures
