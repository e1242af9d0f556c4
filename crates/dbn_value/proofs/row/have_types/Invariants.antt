use Rattle.std.proofs.Common.{◌≡◌, map, take}
use Rattle.dbn_value.proofs.row.have_types.Given as goal

abbrev pub invariant-loop-i : goal.invariant-loop-i
invariant-loop-i g l = map g.C.Cell.type_of (take l.i l.cells) ≡ take l.i l.types
