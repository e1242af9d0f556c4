use Rattle.dbn_plan.proofs.EasingLaws.{pair_copied}
use Rattle.dbn_plan.proofs.easing.add_pair.Goals as goal

pub returns : goal.returns
returns c =
    pair_copied c.args.equations.now.keys c.insert.new.self.keys c.in_ok-left.left c.in_ok-right.right c.args.x.now c.args.y.now c.in_ok-insert.ensures.keys c.in_ok-left.ensures c.in_ok-right.ensures
