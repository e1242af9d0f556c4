use Rattle.std.proofs.Common.{◌≡◌, take}
use Rattle.std.specs.List.{filter}
use Rattle.dbn_slow.specs.Clauses.{passes}
use Rattle.dbn_slow.proofs.listing.bindings.Given as goal

abbrev pub invariant-loop-row : goal.invariant-loop-row
invariant-loop-row l = l.rows ≡ filter (passes l.transition l.at.marking) (take l.row-index l.row-items)
