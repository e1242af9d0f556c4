use Rattle.std.proofs.Common.{◌∙◌, false, ap}
use Rattle.dbn_network.specs.Values.{rows_from, values}
use Rattle.dbn_network.specs.Holding.{nodes_of, feeds_of}
use Rattle.dbn_network.proofs.AddLaws.{new_stands}
use Rattle.dbn_network.proofs.adding.new_held.Goals as goal

pub returns-clause-stands : goal.returns-clause-stands
returns-clause-stands g c =
    λ shapes net fits. new_stands g.met.C.Ord.total g.met.C.Cell.exact shapes c.args.states.now c.args.tables.now net c.args.node c.new-state.result.node c.fill_left.new.state.node (record { state = c.fill_right.new.state; read = false })
    c.new-state.result.kept c.fill_left.new.state.kept c.as_slice.result.now c.as_slice-2.result.now c.new-state.ensures.node c.fill_left.ensures.node c.fill_right.ensures.node c.new-state.ensures.stands
    c.in_ok-fill_left.ensures.stands c.in_ok-fill_right.ensures.stands
    (c.as_slice.ensures ∙ c.in_ok-lefts.ensures shapes net ∙ ap (rows_from (feeds_of g.C.Ord.cmp c.args.tables.now) (values g.C.Ord.cmp (feeds_of g.C.Ord.cmp c.args.tables.now) (nodes_of c.args.states.now))) c.left_input.ensures)
    (c.as_slice-2.ensures ∙ c.in_ok-rights.ensures shapes net ∙ ap (rows_from (feeds_of g.C.Ord.cmp c.args.tables.now) (values g.C.Ord.cmp (feeds_of g.C.Ord.cmp c.args.tables.now) (nodes_of c.args.states.now))) c.right_input.ensures)
    fits
