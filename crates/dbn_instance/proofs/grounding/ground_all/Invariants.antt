use Rattle.std.proofs.Common.{◌≡◌, take}
use Rattle.dbn_instance.specs.Grounding.{grounded}
use Rattle.dbn_instance.proofs.grounding.ground_all.Given as goal

abbrev pub invariant-loop-pattern : goal.invariant-loop-pattern
invariant-loop-pattern l = l.facts ≡ grounded l.params l.args (take l.pattern-index l.patterns)
