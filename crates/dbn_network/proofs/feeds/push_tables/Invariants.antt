use Rattle.std.proofs.Common.{◌≡◌, ◌++◌, [], map, take}
use Rattle.dbn_network.proofs.feeds.push_tables.Given as goal

abbrev pub invariant-loop-shape : goal.invariant-loop-shape
invariant-loop-shape g l = l.tables.items ≡ l.fn.tables.items ++ map (λ shape. []) (take l.shape-index l.shapes)
