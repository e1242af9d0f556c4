use Rattle.std.proofs.Common.{rules, ◌∙◌, sym, length, subst, arith}
use Rattle.dbn_network.specs.declared.input.Input.TheVariants as input
use Rattle.dbn_network.specs.Inputs.{left_in}
use Rattle.dbn_network.specs.States.{IsThere}
use Rattle.dbn_network.proofs.TableLaws.{needed_there, node_rows_by, feed_rows_are}
use Rattle.dbn_network.proofs.tables.+rows_in.Goals as goal

pub feed_rows-requires : goal.feed_rows-requires
feed_rows-requires g t c =
    subst (IsThere (length c.args.tables.now) c.args.node) (sym c.needed_input.ensures ∙ c.in-Feed.is)
    (needed_there c.index-states-node.result.state.node (length c.args.tables.now) c.args.node (subst (λ s. IsThere (length c.args.tables.now) c.args.node (left_in s.state.node)) (sym c.index-states-node.is) (c.requires.earlier c.args.node c.index-states-node.result c.requires.range).0))

pub rows_in-requires : goal.rows_in-requires
rows_in-requires g t c κs within =
    let below = subst (IsThere (length c.args.tables.now) c.args.node) (sym c.needed_input.ensures ∙ c.in-Earlier.is)
    (needed_there c.index-states-node.result.state.node (length c.args.tables.now) c.args.node (subst (λ s. IsThere (length c.args.tables.now) c.args.node (left_in s.state.node)) (sym c.index-states-node.is) (c.requires.earlier c.args.node c.index-states-node.result c.requires.range).0)) in
    let range = c.requires.range in
    let less = c.decreases in
    (omega arith, (search rules, (search rules, (omega arith, c.requires.earlier))))

pub returns-in-Nothing : goal.returns-in-Nothing
returns-in-Nothing g t c =
    λ shapes net. node_rows_by g.met.C.Ord.total g.met.C.Cell.exact shapes c.args.states.now c.args.tables.now net c.args.node c.index-states-node.result c.requires.range c.index-states-node.is input.Nothing c.as_slice.result.now c.in_ok-rows-in-Nothing.rows
    (sym c.needed_input.ensures ∙ c.in-Nothing.is) c.in_ok-rows-in-Nothing.ensures (c.as_slice.ensures ∙ c.new-lefts.ensures)

pub returns-in-Feed : goal.returns-in-Feed
returns-in-Feed g t c =
    λ shapes net. node_rows_by g.met.C.Ord.total g.met.C.Cell.exact shapes c.args.states.now c.args.tables.now net c.args.node c.index-states-node.result c.requires.range c.index-states-node.is (input.Feed c.in-Feed.feed) c.as_slice-in-Feed.result.now c.in_ok-rows-in-Feed.rows
    (sym c.needed_input.ensures ∙ c.in-Feed.is) c.in_ok-rows-in-Feed.ensures
    (c.as_slice-in-Feed.ensures ∙ feed_rows_are g.met.C.Ord.total g.met.C.Cell.exact shapes c.args.states.now c.args.tables.now net c.in-Feed.feed c.in_ok-lefts-in-Feed.lefts c.in_ok-lefts-in-Feed.ensures)

pub returns-in-Earlier : goal.returns-in-Earlier
returns-in-Earlier g t c =
    λ shapes net. node_rows_by g.met.C.Ord.total g.met.C.Cell.exact shapes c.args.states.now c.args.tables.now net c.args.node c.index-states-node.result c.requires.range c.index-states-node.is (input.Earlier c.in-Earlier.i) c.as_slice-in-Earlier.result.now c.in_ok-rows-in-Earlier.rows
    (sym c.needed_input.ensures ∙ c.in-Earlier.is) c.in_ok-rows-in-Earlier.ensures
    (c.as_slice-in-Earlier.ensures ∙ c.in_ok-lefts-in-Earlier.ensures shapes net)
