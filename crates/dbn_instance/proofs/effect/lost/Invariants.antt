use Rattle.std.proofs.Common.{◌≡◌, take}
use Rattle.dbn_instance.specs.Facts.{lost_facts}
use Rattle.dbn_instance.proofs.effect.lost.Given as goal

abbrev pub invariant-loop-fact : goal.invariant-loop-fact
invariant-loop-fact g l = l.lost.keys ≡ lost_facts g.C.Ord.cmp (take l.fact-index l.deletes) l.added.keys l.instance
