use Rattle.std.proofs.Common.{◌≡◌, ◌++◌, map}
use Rattle.dbn_instance.specs.declared.fact.Change.TheVariants.{Plus}
use Rattle.dbn_instance.specs.Facts.{AreInRange, missing_facts}
use Rattle.dbn_instance.proofs.effect.push_pluses.Given as goal

abbrev pub invariant-loop-fact : goal.invariant-loop-fact
invariant-loop-fact g l = record {
  so_far : l.changes ++ map (λ f. Plus f) (missing_facts g.C.Ord.cmp l.fact-iterator l.instance) ≡ l.fn.changes ++ map (λ f. Plus f) (missing_facts g.C.Ord.cmp l.fn.added.keys l.instance);
  within : AreInRange l.instance l.fact-iterator;
}
