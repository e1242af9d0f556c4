-- The order of facts: by relation and then by row.
use Rattle.std.specs.declared.cmp.Ordering.{Ordering}
use Rattle.std.specs.Ordering.{nat_cmp, ordering_then}
use Rattle.std.specs.Cmp.{IsTotalOrder, nat_cmp_total, on_total, then_total}
use Rattle.std.specs.Cmp.Lexicographic.{slice_cmp, lists_total}
use Rattle.dbn_instance.specs.declared.fact.Fact.{Fact}

-- cmp is the order of cells
abbrev pub fact_cmp : {C : Type 0} → (C → C → Ordering) → Fact C → Fact C → Ordering
fact_cmp cmp f g = ordering_then (nat_cmp f.rel g.rel) (slice_cmp cmp f.row g.row)

pub fact_total : {C : Type 0} {cmp : C → C → Ordering} → IsTotalOrder cmp → IsTotalOrder (fact_cmp cmp)
fact_total {C} {cmp} o = then_total (on_total (λ (f : Fact C). f.rel) nat_cmp_total) (on_total (λ (f : Fact C). f.row) (lists_total o))
