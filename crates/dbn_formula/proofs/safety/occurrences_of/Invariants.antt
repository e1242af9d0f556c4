use Rattle.std.proofs.Common.{◌≡◌, take}
use Rattle.std.specs.List.{flat_map}
use Rattle.dbn_formula.specs.Free.{occurrences}
use Rattle.dbn_formula.proofs.safety.occurrences_of.Given as goal

abbrev pub invariant-loop-part : goal.invariant-loop-part
invariant-loop-part l = l.vars ≡ flat_map (λ f. occurrences f.now) (take l.part-index l.parts)
