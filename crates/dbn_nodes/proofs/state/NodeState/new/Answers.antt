use Rattle.dbn_nodes.proofs.NodeLaws.{empty_stands}
use Rattle.dbn_nodes.proofs.state.NodeState.new.Goals as goal

pub returns-clause-stands : goal.returns-clause-stands
returns-clause-stands g c = empty_stands g.met.C.Ord.total g.met.C.Cell.exact c.args.node _ c.new.ensures.counts c.new-2.ensures.counts c.new-3.ensures.counts
