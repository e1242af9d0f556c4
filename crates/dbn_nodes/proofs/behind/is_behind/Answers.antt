use Rattle.std.proofs.Common.{sym, ap, ◌∙◌}
use Rattle.std.specs.Ordering.{is_gt}
use Rattle.std.specs.Cmp.Lexicographic.{lists_total}
use Rattle.dbn_nodes.proofs.BehindLaws.{behind_all, none_in_none}
use Rattle.dbn_nodes.proofs.behind.is_behind.Goals as goal

pub returns-in-Some : goal.returns-in-Some
returns-in-Some g c =
    λ e. behind_all (lists_total g.met.C.Ord.total) c.args.rows.now.entries c.args.row.now c.in-Some.last.now c.in-Some.ensures.greatest (ap is_gt (sym c.cmp.ensures) ∙ sym c.is_gt.ensures ∙ e)

pub returns-in-None : goal.returns-in-None
returns-in-None g c = λ e. none_in_none (lists_total g.met.C.Ord.total) c.args.rows.now.entries c.args.row.now c.in-None.ensures.variant.1
