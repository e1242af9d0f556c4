use Rattle.std.proofs.Common.{◌≡◌, drop}
use Rattle.std.specs.List.{list_any}
use Rattle.dbn_value.specs.Order.{value_type, type_eq}
use Rattle.dbn_formula.specs.Answers.{values_in}
use Rattle.dbn_scratch.proofs.domains.occurs_in.Given as goal

abbrev pub invariant-loop-rel : goal.invariant-loop-rel
invariant-loop-rel l = list_any (λ v. type_eq (value_type v) l.column) (values_in l.instance) ≡ list_any (λ v. type_eq (value_type v) l.column) (values_in (drop l.rel l.instance))
