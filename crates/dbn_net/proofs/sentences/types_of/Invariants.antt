use Rattle.std.proofs.Common.{◌≡◌, map, take}
use Rattle.dbn_net.proofs.sentences.types_of.Given as goal

abbrev pub invariant-loop-pair : goal.invariant-loop-pair
invariant-loop-pair g l = l.types ≡ map (λ p. p.1) (take l.pair-index l.pairs)
