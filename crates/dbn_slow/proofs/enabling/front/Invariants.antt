use Rattle.std.proofs.Common.{◌≡◌, take}
use Rattle.dbn_slow.proofs.enabling.front.Given as goal

abbrev pub invariant-loop-value : goal.invariant-loop-value
invariant-loop-value l = l.values.items ≡ take l.value-index (take l.many l.row)
