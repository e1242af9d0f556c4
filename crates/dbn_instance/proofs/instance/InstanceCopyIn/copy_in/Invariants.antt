use Rattle.std.proofs.Common.{◌≡◌, take}
use Rattle.dbn_instance.proofs.instance.InstanceCopyIn.copy_in.Given as goal

abbrev pub invariant-loop-relation : goal.invariant-loop-relation
invariant-loop-relation g l = l.relations.items ≡ take l.relation-index l.self
