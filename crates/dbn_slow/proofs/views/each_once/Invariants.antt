use Rattle.std.proofs.Common.{◌≡◌, map, take}
use Rattle.dbn_slow.proofs.views.each_once.Given as goal

abbrev pub invariant-loop-row : goal.invariant-loop-row
invariant-loop-row l = l.counted ≡ map (λ row. (row, 1)) (take l.row-index l.rows)
