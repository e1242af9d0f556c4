use Rattle.std.proofs.Common.{◌≡◌, ◌++◌, map, take}
use Rattle.dbn_reader.proofs.names.add_names.Given as goal

abbrev pub invariant-loop-item : goal.invariant-loop-item
invariant-loop-item g l = l.out ≡ l.fn.out ++ map g.T.Named.name_of (take l.item-index l.items)
