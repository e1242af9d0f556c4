use Rattle.std.proofs.Common.{[], ap, ◌∙◌}
use Rattle.dbn_plan.specs.Columns.{tests_after}
use Rattle.dbn_plan.proofs.StepLaws.{open_after, placed_after, grown_then}
use Rattle.dbn_plan.proofs.AtomMade.{scan_placed, select_names, atom_arity}
use Rattle.dbn_plan.proofs.EquatedMade.{equated_made}
use Rattle.dbn_plan.proofs.equated.atom_where.Goals as goal

pub selected-requires-clause-open : goal.selected-requires-clause-open
selected-requires-clause-open g c = open_after c.args.network.now c.scan_of.new.network c.in_ok-scan.ensures.grown c.requires.open

pub selected-requires-clause-there : goal.selected-requires-clause-there
selected-requires-clause-there g c =
    (scan_placed c.args.network.now c.scan_of.new.network c.args.rel c.args.terms.now c.in_ok-scan.scan c.requires.open c.requires.range (atom_arity c.args.network.now.rels c.args.rel c.args.terms.now c.requires.arity) c.in_ok-scan.ensures).there

pub selected-requires-clause-fits : goal.selected-requires-clause-fits
selected-requires-clause-fits g c =
    select_names (g.P.Coder.cell_of c.args.coder.now) c.scan_of.new.network c.in_ok-scan.scan c.args.terms.now c.in_ok-tests.tests
    (scan_placed c.args.network.now c.scan_of.new.network c.args.rel c.args.terms.now c.in_ok-scan.scan c.requires.open c.requires.range (atom_arity c.args.network.now.rels c.args.rel c.args.terms.now c.requires.arity) c.in_ok-scan.ensures)
    (c.in_ok-tests.ensures ∙ ap (tests_after (g.P.Coder.cell_of c.args.coder.now) []) c.as_slice.ensures)

pub joined_by-requires-clause-open : goal.joined_by-requires-clause-open
joined_by-requires-clause-open g c =
    open_after c.args.network.now c.selected.new.network (grown_then c.args.network.now c.scan_of.new.network c.selected.new.network c.in_ok-scan.ensures.grown c.in_ok-from.ensures.grown) c.requires.open

pub joined_by-requires-clause-placed : goal.joined_by-requires-clause-placed
joined_by-requires-clause-placed g c =
    placed_after c.args.network.now c.selected.new.network c.args.at.now.node c.args.at.now.labels
    (grown_then c.args.network.now c.scan_of.new.network c.selected.new.network c.in_ok-scan.ensures.grown c.in_ok-from.ensures.grown) c.requires.placed

pub joined_by-requires-clause-other : goal.joined_by-requires-clause-other
joined_by-requires-clause-other g c =
    c.in_ok-from.ensures.placed c.args.terms.now
    (scan_placed c.args.network.now c.scan_of.new.network c.args.rel c.args.terms.now c.in_ok-scan.scan c.requires.open c.requires.range (atom_arity c.args.network.now.rels c.args.rel c.args.terms.now c.requires.arity) c.in_ok-scan.ensures)

pub returns : goal.returns
returns g c left right is =
    equated_made left right c.args.rel c.args.terms.now c.args.network.now c.scan_of.new.network c.selected.new.network c.joined_by.new.network c.args.at.now.node c.args.at.now.labels c.in_ok-tests.tests
    c.in_ok-scan.scan c.in_ok-from.from c.args.pair c.in_ok-made.made.node c.in_ok-made.made.labels c.requires.open c.requires.placed c.requires.range c.requires.arity c.requires.cells
    c.in_ok-scan.ensures (c.in_ok-tests.ensures ∙ ap (tests_after (g.P.Coder.cell_of c.args.coder.now) []) c.as_slice.ensures) c.in_ok-from.ensures c.in_ok-made.ensures is
