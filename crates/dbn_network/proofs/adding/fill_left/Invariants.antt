use Rattle.std.proofs.Common.{◌≡◌, true, map, take}
use Rattle.dbn_nodes.specs.Changes.{signed}
use Rattle.dbn_network.specs.Passes.{FollowsLefts}
use Rattle.dbn_network.proofs.adding.fill_left.Given as goal

abbrev pub invariant-loop-row : goal.invariant-loop-row
invariant-loop-row g l = (l.state.node ≡ l.fn.state.node) × FollowsLefts g.C.Ord.cmp l.fn.state.node l.fn.state.kept l.state.kept (map (signed true) (take l.row-index l.rows))
