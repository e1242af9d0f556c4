use Rattle.std.proofs.Common.{◌≡◌, map, drop}
use Rattle.dbn_reader.specs.Short.{short_names}
use Rattle.dbn_reader.proofs.limits.short_names.Given as goal

abbrev pub invariant-loop-item : goal.invariant-loop-item
invariant-loop-item g l = short_names (map g.T.Named.name_of l.items) ≡ short_names (map g.T.Named.name_of (drop l.item-index l.items))
