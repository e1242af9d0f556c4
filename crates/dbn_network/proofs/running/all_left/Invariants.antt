use Rattle.std.proofs.Common.{take}
use Rattle.dbn_network.specs.Passes.{RunsLeft}
use Rattle.dbn_network.proofs.running.all_left.Given as goal

abbrev pub invariant-loop-event : goal.invariant-loop-event
invariant-loop-event g l = RunsLeft g.C.Ord.cmp l.fn.held l.held (take l.event-index l.events) l.fn.out l.out l.fn.steps l.steps
