use Rattle.std.proofs.Common.{◌≡◌, length}
use Rattle.std.specs.Vec.Iter.{into_iter_items, into_iter_len}
use Rattle.dbn_network.proofs.WorkedLaws.{Adding}
use Rattle.dbn_network.proofs.tests.add_all.Given as goal

abbrev pub invariant-loop-node : goal.invariant-loop-node
invariant-loop-node g l = Adding l.fn.network l.fn.nodes.items l.network (into_iter_items l.node-iterator) × (into_iter_len l.node-iterator ≡ length (into_iter_items l.node-iterator))
