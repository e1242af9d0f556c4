use Rattle.std.proofs.Common.{◌≡◌, ◌++◌, [], map, take}
use Rattle.dbn_network.proofs.walks.push_walks.Given as goal

abbrev pub invariant-loop-shape : goal.invariant-loop-shape
invariant-loop-shape l = l.walks.items ≡ l.fn.walks.items ++ map (λ shape. []) (take l.shape-index l.shapes)
