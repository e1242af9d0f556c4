use Rattle.std.proofs.Common.{◌≡◌, ◌++◌}
use Rattle.std.specs.Map.{keys_of}
use Rattle.dbn_marking.specs.Counts.{place_of}
use Rattle.dbn_slow.proofs.listing.held.Given as goal

abbrev pub invariant-loop-row : goal.invariant-loop-row
invariant-loop-row l = l.rows ++ keys_of l.row-iterator ≡ keys_of (place_of l.marking l.place)
