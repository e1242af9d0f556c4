use Rattle.std.proofs.Common.{◌≡◌, length}
use Rattle.dbn_network.proofs.WalkLaws.{Lengthened}
use Rattle.dbn_network.proofs.walks.lengthen_all.Given as goal

abbrev pub invariant-loop-feed : goal.invariant-loop-feed
invariant-loop-feed l = Lengthened l.fn.walks.items l.walks.items l.left l.right l.number l.feed × (l.feed-end ≡ length l.fn.walks.items)
