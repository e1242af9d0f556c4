use Rattle.std.proofs.Common.{rules, ◌≡◌, ◌++◌, ◌∙◌, [], refl, ap, map, not, nat_lt}
use Rattle.std.specs.Cmp.Lexicographic.{slice_cmp}
use Rattle.dbn_nodes.specs.Changes.{row_in, comes, signed, maybe}
use Rattle.dbn_nodes.specs.Tables.{count_at}
use Rattle.dbn_nodes.proofs.NodeLaws.{diff_left_leads, diff_left_stands}
use Rattle.dbn_nodes.proofs.changes.diff_left.Goals as goal

pub returns-clause-leads : goal.returns-clause-leads
returns-clause-leads g c =
    λ l r. let made : c.push_row.new.out ≡ c.args.out.now ++ map (signed (comes c.args.event.now)) (maybe (not c.holds-there.result) (row_in c.args.event.now)) = search rules in
    diff_left_leads g.met.C.Ord.total g.met.C.Cell.exact l r c.args.kept.now c.args.event.now (not c.holds-there.result) c.args.out.now c.push_row.new.out (ap not c.holds-there.ensures.value ∙ ap (λ r. not (nat_lt 0 (count_at (slice_cmp g.C.Ord.cmp) c.args.kept.now.rights [] r))) c.row.ensures) made

pub returns-clause-stands : goal.returns-clause-stands
returns-clause-stands g c =
    λ l r. diff_left_stands g.met.C.Ord.total g.met.C.Cell.exact l r c.args.kept.now (record { lefts = c.mark.new.table; rights = c.args.kept.now.rights; supports = c.args.kept.now.supports }) c.args.event.now c.from_vec-key.result (c.from_vec-key.ensures ∙ c.new.ensures.items) c.in_ok-mark.ensures.counts refl
