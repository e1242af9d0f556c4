use Rattle.std.proofs.Common.{rules, ◌≡◌, ◌++◌, ◌∷◌, []}
use Rattle.dbn_network.proofs.FeedLaws.{things_more}
use Rattle.dbn_network.proofs.walks.push_walks.Goals as goal

pub loop-shape-preserved : goal.loop-shape-preserved
loop-shape-preserved c =
    let made : c.push.new.self.items ≡ c.loop-shape.walks.items ++ [] ∷ [] = search rules in
    things_more [] c.args.shapes.now c.loop-shape.shape-index c.shape-item.result c.args.walks.now.items c.loop-shape.walks.items c.push.new.self.items c.loop-shape-test.true c.shape-item.is c.loop-shape.invariant made
