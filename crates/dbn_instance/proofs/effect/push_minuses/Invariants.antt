use Rattle.std.proofs.Common.{◌≡◌, ◌++◌, map}
use Rattle.dbn_instance.specs.declared.fact.Change.TheVariants.{Minus}
use Rattle.dbn_instance.proofs.effect.push_minuses.Given as goal

abbrev pub invariant-loop-fact : goal.invariant-loop-fact
invariant-loop-fact g l = l.changes ++ map (λ f. Minus f) l.fact-iterator ≡ l.fn.changes ++ map (λ f. Minus f) l.fn.facts.keys
