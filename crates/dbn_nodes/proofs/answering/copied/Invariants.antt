use Rattle.std.proofs.Common.{◌≡◌, take}
use Rattle.dbn_nodes.proofs.answering.copied.Given as goal

abbrev pub invariant-loop-row : goal.invariant-loop-row
invariant-loop-row g l = l.out ≡ take l.row-index l.rows
