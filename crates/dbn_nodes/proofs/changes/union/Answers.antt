use Rattle.std.proofs.Common.{rules, ◌≡◌, ◌++◌, ◌==◌, [], map}
use Rattle.std.specs.Cmp.Lexicographic.{slice_cmp}
use Rattle.dbn_nodes.specs.Changes.{row_in, comes, signed, maybe}
use Rattle.dbn_nodes.specs.Tables.{count_at, choose}
use Rattle.dbn_nodes.proofs.NodeLaws.{union_left_leads, union_right_leads, union_left_stands, union_right_stands}
use Rattle.dbn_nodes.proofs.changes.union.Goals as goal

pub returns-clause-stands_left : goal.returns-clause-stands_left
returns-clause-stands_left g c = λ l r. union_left_stands g.met.C.Ord.total g.met.C.Cell.exact l r c.args.kept.now (record { lefts = c.args.kept.now.lefts; rights = c.args.kept.now.rights; supports = c.count_again.new.table }) c.args.event.now (rw (c.row.ensures, c.comes.ensures) at c.in_ok-turned.ensures.counts)

pub returns-clause-leads_left : goal.returns-clause-leads_left
returns-clause-leads_left g c =
    λ l r. let made : c.push_row.new.out ≡ c.args.out.now ++ map (signed (comes c.args.event.now)) (maybe c.in_ok-turned.turned (row_in c.args.event.now)) = search rules in
    let turned : c.in_ok-turned.turned ≡ (count_at (slice_cmp g.C.Ord.cmp) c.args.kept.now.supports [] (row_in c.args.event.now) == choose (comes c.args.event.now) 0 1) = search rules in
    union_left_leads g.met.C.Ord.total g.met.C.Cell.exact l r c.args.kept.now c.args.event.now c.in_ok-turned.turned c.args.out.now c.push_row.new.out turned made

pub returns-clause-stands_right : goal.returns-clause-stands_right
returns-clause-stands_right g c = λ l r. union_right_stands g.met.C.Ord.total g.met.C.Cell.exact l r c.args.kept.now (record { lefts = c.args.kept.now.lefts; rights = c.args.kept.now.rights; supports = c.count_again.new.table }) c.args.event.now (rw (c.row.ensures, c.comes.ensures) at c.in_ok-turned.ensures.counts)

pub returns-clause-leads_right : goal.returns-clause-leads_right
returns-clause-leads_right g c =
    λ l r. let made : c.push_row.new.out ≡ c.args.out.now ++ map (signed (comes c.args.event.now)) (maybe c.in_ok-turned.turned (row_in c.args.event.now)) = search rules in
    let turned : c.in_ok-turned.turned ≡ (count_at (slice_cmp g.C.Ord.cmp) c.args.kept.now.supports [] (row_in c.args.event.now) == choose (comes c.args.event.now) 0 1) = search rules in
    union_right_leads g.met.C.Ord.total g.met.C.Cell.exact l r c.args.kept.now c.args.event.now c.in_ok-turned.turned c.args.out.now c.push_row.new.out turned made
