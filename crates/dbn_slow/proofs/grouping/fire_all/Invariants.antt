use Rattle.std.proofs.Common.{◌≡◌, drop}
use Rattle.dbn_net.specs.Good.{Good}
use Rattle.dbn_core.specs.Group.{group_from}
use Rattle.dbn_slow.proofs.LoopLaws.{told_all}
use Rattle.dbn_slow.proofs.grouping.fire_all.Given as goal

abbrev pub invariant-loop-number : goal.invariant-loop-number
invariant-loop-number l =
    Good l.net l.now
    × (told_all l.all (group_from l.number l.net (drop l.number l.members) l.now) ≡ group_from 0 l.net l.members l.at)
