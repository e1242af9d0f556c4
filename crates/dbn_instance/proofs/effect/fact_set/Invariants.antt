use Rattle.std.proofs.Common.{◌≡◌, take}
use Rattle.dbn_value.specs.Ascending.{ascending}
use Rattle.dbn_instance.specs.FactOrder.{fact_cmp}
use Rattle.dbn_instance.proofs.effect.fact_set.Given as goal

abbrev pub invariant-loop-fact : goal.invariant-loop-fact
invariant-loop-fact g l = l.set.keys ≡ ascending (fact_cmp g.C.Ord.cmp) (take l.fact-index l.facts)
