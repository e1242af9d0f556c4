use Rattle.std.proofs.Common.{rules, ◌≡◌, ◌++◌, map, true}
use Rattle.dbn_nodes.specs.Changes.{row_in, comes, signed, maybe}
use Rattle.dbn_nodes.proofs.NodeLaws.{scan_leads}
use Rattle.dbn_nodes.proofs.changes.scan_left.Goals as goal

pub returns-clause-leads : goal.returns-clause-leads
returns-clause-leads g c =
    λ feed. let made : c.push_row.new.out ≡ c.args.out.now ++ map (signed (comes c.args.event.now)) (maybe true (row_in c.args.event.now)) = search rules in
    scan_leads g.met.C.Ord.total g.met.C.Cell.exact feed c.args.kept.now c.args.event.now c.args.out.now c.push_row.new.out made
