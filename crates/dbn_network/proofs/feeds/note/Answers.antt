use Rattle.std.proofs.Common.{◌∙◌, []}
use Rattle.dbn_nodes.proofs.ChangeLaws.{one_moves}
use Rattle.dbn_nodes.proofs.NodeLaws.{mark_stands}
use Rattle.dbn_network.proofs.feeds.note.Goals as goal

pub returns-clause-plain : goal.returns-clause-plain
returns-clause-plain g c =
    λ s z sorted st led. mark_stands g.met.C.Ord.total g.met.C.Cell.exact c.args.table.now c.mark.new.table (λ x. []) c.args.event.now c.from_vec-key.result s z (c.from_vec-key.ensures ∙ c.new.ensures.items) c.in_ok-mark.ensures.counts st
    (one_moves g.met.C.Ord.total g.met.C.Cell.exact c.args.event.now s z sorted led)
