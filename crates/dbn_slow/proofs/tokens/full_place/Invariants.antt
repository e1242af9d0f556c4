use Rattle.std.proofs.Common.{◌≡◌, drop}
use Rattle.dbn_value.specs.Order.{value_cmp}
use Rattle.dbn_core.specs.Moves.{first_full}
use Rattle.dbn_slow.proofs.tokens.full_place.Given as goal

abbrev pub invariant-loop-give : goal.invariant-loop-give
invariant-loop-give l = first_full value_cmp (drop l.give-index l.gives) l.marking ≡ first_full value_cmp l.gives l.marking
