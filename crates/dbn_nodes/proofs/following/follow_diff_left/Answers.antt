use Rattle.std.proofs.Common.{◌∙◌, refl}
use Rattle.dbn_nodes.proofs.NodeLaws.{diff_left_stands}
use Rattle.dbn_nodes.proofs.following.follow_diff_left.Goals as goal

pub returns-clause-stands : goal.returns-clause-stands
returns-clause-stands g c =
    λ l r. diff_left_stands g.met.C.Ord.total g.met.C.Cell.exact l r c.args.kept.now (record { lefts = c.mark.new.table; rights = c.args.kept.now.rights; supports = c.args.kept.now.supports }) c.args.event.now c.from_vec-key.result (c.from_vec-key.ensures ∙ c.new.ensures.items) c.in_ok-mark.ensures.counts refl
