use Rattle.std.proofs.Common.{◌≡◌, take}
use Rattle.dbn_nodes.specs.Values.{extended}
use Rattle.dbn_nodes.proofs.answering.extended_rows.Given as goal

abbrev pub invariant-loop-row : goal.invariant-loop-row
invariant-loop-row g l = l.longer.keys ≡ extended g.C.Ord.cmp l.with (take l.row-index l.lefts)
