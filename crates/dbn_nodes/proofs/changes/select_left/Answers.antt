use Rattle.std.proofs.Common.{rules, ◌≡◌, ◌++◌, map}
use Rattle.std.specs.List.{list_all}
use Rattle.dbn_nodes.specs.Changes.{row_in, comes, signed, maybe}
use Rattle.dbn_nodes.specs.Values.{passes}
use Rattle.dbn_nodes.proofs.NodeLaws.{select_leads}
use Rattle.dbn_nodes.proofs.changes.select_left.Goals as goal

pub returns-clause-leads : goal.returns-clause-leads
returns-clause-leads g c =
    λ from. let made : c.push_row.new.out ≡ c.args.out.now ++ map (signed (comes c.args.event.now)) (maybe (list_all (passes g.C.Ord.cmp (row_in c.args.event.now)) c.args.tests.now) (row_in c.args.event.now)) = search rules in
    select_leads g.met.C.Ord.total g.met.C.Cell.exact from c.args.tests.now c.args.kept.now c.args.event.now c.args.out.now c.push_row.new.out made
