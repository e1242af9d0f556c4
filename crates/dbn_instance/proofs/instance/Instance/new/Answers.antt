use Rattle.std.proofs.Common.{subst, sym}
use Rattle.dbn_instance.specs.Facts.{IsInstance}
use Rattle.dbn_instance.proofs.FactLaws.{instance_empty}
use Rattle.dbn_instance.proofs.instance.Instance.new.Goals as goal

pub invariant_of-result : goal.invariant_of-result
invariant_of-result g c = subst (IsInstance g.C.Ord.cmp) (sym c.loop.invariant) (instance_empty g.C.Ord.cmp c.loop.counter)
