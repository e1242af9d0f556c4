use Rattle.std.proofs.Common.{rules, arith}
use Rattle.dbn_network.proofs.WalkLaws.{none_lengthened, one_lengthened}
use Rattle.dbn_network.proofs.walks.lengthen_all.Goals as goal

pub loop-feed-init : goal.loop-feed-init
loop-feed-init c = (none_lengthened c.args.walks.now.items c.args.left.now c.args.right.now c.args.number, search rules)

pub lengthen_at-requires : goal.lengthen_at-requires
lengthen_at-requires c = let so = c.loop-feed.invariant.0.size in let end = c.loop-feed.invariant.1 in let below = c.loop-feed-test.true in omega arith

pub loop-feed-preserved : goal.loop-feed-preserved
loop-feed-preserved c =
    let end = c.loop-feed.invariant.1 in
    let below = c.loop-feed-test.true in
    (rw c.in_ok-lengthen_at.ensures (one_lengthened c.args.walks.now.items c.loop-feed.walks.items c.args.left.now c.args.right.now c.args.number c.loop-feed.feed (omega arith) c.loop-feed.invariant.0), end)

pub returns-clause-size : goal.returns-clause-size
returns-clause-size c = c.loop-feed.invariant.0.size

pub returns-clause-each : goal.returns-clause-each
returns-clause-each c =
    λ k within. let end = c.loop-feed.invariant.1 in let past = c.loop-feed-test.false in c.loop-feed.invariant.0.each k (omega arith)
