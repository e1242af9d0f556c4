use Rattle.dbn_network.proofs.WalkLaws.{Walked}
use Rattle.dbn_network.proofs.pass.pass.Given as goal

abbrev pub invariant-loop-node : goal.invariant-loop-node
invariant-loop-node g l = Walked g.C.Ord.cmp l.fn.states.items l.feed l.event l.walk l.node-index l.states.items l.made.items l.fn.steps l.steps
