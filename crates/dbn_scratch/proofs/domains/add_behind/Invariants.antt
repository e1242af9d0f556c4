use Rattle.std.proofs.Common.{◌≡◌, ◌∷◌, ◌++◌, map, take}
use Rattle.dbn_scratch.specs.Given.{row_of, rows_of}
use Rattle.dbn_scratch.proofs.domains.add_behind.Given as goal

abbrev pub invariant-loop-row : goal.invariant-loop-row
invariant-loop-row l = rows_of l.out ≡ rows_of l.fn.out ++ map (λ row. l.value ∷ row_of row.items) (take l.row-index l.rows)
