use Rattle.std.proofs.Common.{◌≡◌, take}
use Rattle.dbn_nodes.specs.Values.{selected}
use Rattle.dbn_nodes.proofs.answering.selected_rows.Given as goal

abbrev pub invariant-loop-row : goal.invariant-loop-row
invariant-loop-row g l = l.out ≡ selected g.C.Ord.cmp l.tests (take l.row-index l.lefts)
