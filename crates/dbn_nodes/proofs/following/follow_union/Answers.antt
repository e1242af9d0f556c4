use Rattle.dbn_nodes.proofs.NodeLaws.{union_left_stands, union_right_stands}
use Rattle.dbn_nodes.proofs.following.follow_union.Goals as goal

pub returns-clause-stands_left : goal.returns-clause-stands_left
returns-clause-stands_left g c = λ l r. union_left_stands g.met.C.Ord.total g.met.C.Cell.exact l r c.args.kept.now (record { lefts = c.args.kept.now.lefts; rights = c.args.kept.now.rights; supports = c.count_again.new.table }) c.args.event.now (rw (c.row.ensures, c.comes.ensures) at c.in_ok-_turned.ensures.counts)

pub returns-clause-stands_right : goal.returns-clause-stands_right
returns-clause-stands_right g c = λ l r. union_right_stands g.met.C.Ord.total g.met.C.Cell.exact l r c.args.kept.now (record { lefts = c.args.kept.now.lefts; rights = c.args.kept.now.rights; supports = c.count_again.new.table }) c.args.event.now (rw (c.row.ensures, c.comes.ensures) at c.in_ok-_turned.ensures.counts)
