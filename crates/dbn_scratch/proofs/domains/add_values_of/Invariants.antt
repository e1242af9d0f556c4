use Rattle.std.proofs.Common.{◌≡◌, ◌++◌}
use Rattle.std.specs.List.{flat_map}
use Rattle.dbn_scratch.specs.Given.{row_of}
use Rattle.dbn_scratch.proofs.domains.add_values_of.Given as goal

abbrev pub invariant-loop-row : goal.invariant-loop-row
invariant-loop-row l = row_of l.out.items ++ flat_map (λ row. row) l.row-iterator ≡ row_of l.fn.out.items ++ flat_map (λ row. row) l.fn.rows.keys
