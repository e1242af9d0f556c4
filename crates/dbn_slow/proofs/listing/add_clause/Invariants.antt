use Rattle.std.proofs.Common.{◌≡◌, ◌++◌, ◌∷◌, [], take, length}
use Rattle.dbn_slow.proofs.listing.add_clause.Given as goal

abbrev pub invariant-loop-row : goal.invariant-loop-row
invariant-loop-row l = (l.rel ≡ length l.fn.shown) × (l.shown ≡ l.fn.shown ++ take l.row-index l.rows ∷ [])
