use Rattle.std.proofs.Common.{◌≡◌, ◌∷◌, map, take}
use Rattle.std.specs.List.{flat_map}
use Rattle.dbn_scratch.specs.Given.{row_of, rows_of}
use Rattle.dbn_scratch.proofs.domains.extended.Given as goal

abbrev pub invariant-loop-value : goal.invariant-loop-value
invariant-loop-value l = rows_of l.made ≡ flat_map (λ v. map (λ row. v.now ∷ row_of row.items) l.rows) (take l.value-index l.column)
