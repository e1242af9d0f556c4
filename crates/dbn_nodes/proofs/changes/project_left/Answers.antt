use Rattle.std.proofs.Common.{rules, ◌≡◌, ◌++◌, ◌==◌, [], map}
use Rattle.std.specs.Cmp.Lexicographic.{slice_cmp}
use Rattle.dbn_value.specs.Picked.{picked}
use Rattle.dbn_nodes.specs.Changes.{row_in, comes, signed, maybe}
use Rattle.dbn_nodes.specs.Tables.{count_at, choose}
use Rattle.dbn_nodes.proofs.NodeLaws.{project_leads, project_stands}
use Rattle.dbn_nodes.proofs.changes.project_left.Goals as goal

pub returns-clause-leads : goal.returns-clause-leads
returns-clause-leads g c =
    λ from. let made : c.push_row.new.out ≡ c.args.out.now ++ map (signed (comes c.args.event.now)) (maybe c.in_ok-turned.turned (picked c.args.cols.now (row_in c.args.event.now))) = search rules in
    let turned : c.in_ok-turned.turned ≡ (count_at (slice_cmp g.C.Ord.cmp) c.args.kept.now.supports [] (picked c.args.cols.now (row_in c.args.event.now)) == choose (comes c.args.event.now) 0 1) = rw (c.in_ok-part.ensures, c.as_slice.ensures, c.row.ensures, c.comes.ensures) at c.in_ok-turned.ensures.turned in
    project_leads g.met.C.Ord.total g.met.C.Cell.exact from c.args.cols.now c.args.kept.now c.args.event.now c.in_ok-turned.turned c.args.out.now c.push_row.new.out turned made

pub returns-clause-stands : goal.returns-clause-stands
returns-clause-stands g c = λ from. project_stands g.met.C.Ord.total g.met.C.Cell.exact from c.args.cols.now c.args.kept.now (record { lefts = c.args.kept.now.lefts; rights = c.args.kept.now.rights; supports = c.count_again.new.table }) c.args.event.now (rw (c.in_ok-part.ensures, c.as_slice.ensures, c.row.ensures, c.comes.ensures) at c.in_ok-turned.ensures.counts)
