use Rattle.std.proofs.Common.{◌≡◌, ◌++◌, ◌+◌, length, map}
use Rattle.std.specs.Map.{keys_of}
use Rattle.dbn_nodes.specs.Changes.{signed, paired}
use Rattle.dbn_nodes.proofs.shelf.push_pairs.Given as goal

abbrev pub invariant-loop-other : goal.invariant-loop-other
invariant-loop-other g l =
    (l.out ++ map (signed l.way.comes) (map (paired l.way.front l.row) (keys_of l.other-iterator)) ≡ l.fn.out ++ map (signed l.way.comes) (map (paired l.way.front l.row) (keys_of l.all.entries)))
    × (l.steps + length (keys_of l.other-iterator) ≡ l.fn.steps + length (keys_of l.all.entries))
