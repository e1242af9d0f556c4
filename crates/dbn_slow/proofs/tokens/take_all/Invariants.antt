use Rattle.std.proofs.Common.{◌≡◌, drop}
use Rattle.dbn_value.specs.Order.{value_cmp}
use Rattle.dbn_core.specs.Moves.{CanTake, taken_all}
use Rattle.dbn_slow.proofs.tokens.take_all.Given as goal

abbrev pub invariant-loop-want : goal.invariant-loop-want
invariant-loop-want l = CanTake value_cmp (drop l.want-index l.wants) l.marking × (taken_all value_cmp (drop l.want-index l.wants) l.marking ≡ taken_all value_cmp l.wants l.fn.marking)
