use Rattle.std.proofs.Common.{refl}
use Rattle.dbn_nodes.proofs.NodeLaws.{join_left_leads, join_left_stands}
use Rattle.dbn_nodes.proofs.changes.join_left.Goals as goal

pub returns-clause-stands : goal.returns-clause-stands
returns-clause-stands g c =
    λ l r. join_left_stands g.met.C.Ord.total g.met.C.Cell.exact l r c.args.on.now c.args.kept.now (record { lefts = c.mark.new.table; rights = c.args.kept.now.rights; supports = c.args.kept.now.supports }) c.args.event.now c.in_ok-key.key (rw (c.as_slice.ensures, c.row.ensures) at c.in_ok-key.ensures) c.in_ok-mark.ensures.counts refl

pub returns-clause-leads : goal.returns-clause-leads
returns-clause-leads g c =
    λ l r. let found = rw (c.in_ok-key.ensures, c.as_slice.ensures, c.row.ensures, c.row-2.ensures, c.comes.ensures) at c.in_ok-join.ensures.out in
    join_left_leads g.met.C.Ord.total g.met.C.Cell.exact l r c.args.on.now c.args.kept.now c.args.event.now found.0 c.args.out.now c.join.new.out found.1 found.2
