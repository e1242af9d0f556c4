use Rattle.std.proofs.Common.{◌≡◌, drop}
use Rattle.dbn_value.specs.Order.{value_cmp}
use Rattle.dbn_core.specs.Moves.{CanGive, given_all}
use Rattle.dbn_slow.proofs.tokens.give_all.Given as goal

abbrev pub invariant-loop-give : goal.invariant-loop-give
invariant-loop-give l = CanGive value_cmp (drop l.give-index l.gives) l.marking × (given_all value_cmp (drop l.give-index l.gives) l.marking ≡ given_all value_cmp l.gives l.fn.marking)
