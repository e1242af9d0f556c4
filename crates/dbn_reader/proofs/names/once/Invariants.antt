use Rattle.std.proofs.Common.{map, drop}
use Rattle.dbn_reader.proofs.SeenNames.{Walked}
use Rattle.dbn_reader.proofs.names.once.Given as goal

abbrev pub invariant-loop-item : goal.invariant-loop-item
invariant-loop-item g l = Walked (λ k. k.now) l.seen.keys (map g.T.Named.name_of l.items) (map g.T.Named.name_of (drop l.item-index l.items))
