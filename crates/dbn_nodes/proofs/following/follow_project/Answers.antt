use Rattle.dbn_nodes.proofs.NodeLaws.{project_stands}
use Rattle.dbn_nodes.proofs.following.follow_project.Goals as goal

pub returns-clause-stands : goal.returns-clause-stands
returns-clause-stands g c = λ from. project_stands g.met.C.Ord.total g.met.C.Cell.exact from c.args.cols.now c.args.kept.now (record { lefts = c.args.kept.now.lefts; rights = c.args.kept.now.rights; supports = c.count_again.new.table }) c.args.event.now (rw (c.in_ok-part.ensures, c.as_slice.ensures, c.row.ensures, c.comes.ensures) at c.in_ok-_turned.ensures.counts)
