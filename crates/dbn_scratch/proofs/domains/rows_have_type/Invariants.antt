use Rattle.std.proofs.Common.{◌≡◌}
use Rattle.std.specs.List.{list_any, flat_map}
use Rattle.dbn_value.specs.Order.{value_type, type_eq}
use Rattle.dbn_scratch.proofs.domains.rows_have_type.Given as goal

abbrev pub invariant-loop-row : goal.invariant-loop-row
invariant-loop-row l =
    list_any (λ v. type_eq (value_type v) l.column) (flat_map (λ row. row) l.fn.rows.keys) ≡ list_any (λ v. type_eq (value_type v) l.column) (flat_map (λ row. row) l.row-iterator)
