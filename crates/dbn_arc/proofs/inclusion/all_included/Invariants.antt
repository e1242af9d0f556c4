use Rattle.std.proofs.Common.{◌≡◌, drop}
use Rattle.dbn_net.specs.Wants.{contained}
use Rattle.dbn_arc.proofs.inclusion.all_included.Given as goal

abbrev pub invariant-loop-want : goal.invariant-loop-want
invariant-loop-want g l = contained g.C.Ord.cmp l.wants l.marking ≡ contained g.C.Ord.cmp (drop l.want-index l.wants) l.marking
