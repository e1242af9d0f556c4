use Rattle.std.proofs.Common.{rules, ◌≡◌, ◌++◌, map, true}
use Rattle.dbn_nodes.specs.Changes.{row_in, comes, signed, maybe}
use Rattle.dbn_nodes.specs.Values.{added_cells}
use Rattle.dbn_nodes.proofs.NodeLaws.{extend_leads}
use Rattle.dbn_nodes.proofs.changes.extend_left.Goals as goal

pub returns-clause-leads : goal.returns-clause-leads
returns-clause-leads g c =
    λ from. let made : c.push.new.self ≡ c.args.out.now ++ map (signed (comes c.args.event.now)) (maybe true (row_in c.args.event.now ++ added_cells c.args.with.now (row_in c.args.event.now))) = search rules in
    extend_leads g.met.C.Ord.total g.met.C.Cell.exact from c.args.with.now c.args.kept.now c.args.event.now c.args.out.now c.push.new.self made
