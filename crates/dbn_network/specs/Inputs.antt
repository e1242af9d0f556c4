-- The inputs of a node.
use Rattle.dbn_nodes.specs.declared.node.Node.{Node}
use Rattle.dbn_nodes.specs.declared.node.Node.TheVariants as node
use Rattle.dbn_network.specs.declared.input.Input.{Input}
use Rattle.dbn_network.specs.declared.input.Input.TheVariants as input

module _ {C : Type 0} where
  -- the left input, which of a node with one input is this one
  abbrev pub left_in : Node C → Input
  left_in node.Unit = input.Nothing
  left_in (node.Scan feed) = input.Feed feed
  left_in (node.Select from tests) = input.Earlier from
  left_in (node.Join left right on) = input.Earlier left
  left_in (node.Diff left right) = input.Earlier left
  left_in (node.Project from cols) = input.Earlier from
  left_in (node.Union left right) = input.Earlier left
  left_in (node.Extend from with) = input.Earlier from

  -- the right input
  abbrev pub right_in : Node C → Input
  right_in node.Unit = input.Nothing
  right_in (node.Scan feed) = input.Nothing
  right_in (node.Select from tests) = input.Nothing
  right_in (node.Join left right on) = input.Earlier right
  right_in (node.Diff left right) = input.Earlier right
  right_in (node.Project from cols) = input.Nothing
  right_in (node.Union left right) = input.Earlier right
  right_in (node.Extend from with) = input.Nothing

  -- the input whose rows are needed to tell the node's own, where the node does not keep enough
  abbrev pub needed_in : Node C → Input
  needed_in node.Unit = input.Nothing
  needed_in (node.Scan feed) = input.Feed feed
  needed_in (node.Select from tests) = input.Earlier from
  needed_in (node.Join left right on) = input.Earlier left
  needed_in (node.Diff left right) = input.Nothing
  needed_in (node.Project from cols) = input.Nothing
  needed_in (node.Union left right) = input.Nothing
  needed_in (node.Extend from with) = input.Earlier from
