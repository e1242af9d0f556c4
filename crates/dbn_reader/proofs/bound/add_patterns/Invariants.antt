use Rattle.std.proofs.Common.{◌≡◌, drop}
use Rattle.std.specs.List.{flat_map}
use Rattle.dbn_net.specs.Naming.{typed_occurrences}
use Rattle.dbn_reader.specs.Bound.{with_all}
use Rattle.dbn_reader.proofs.bound.add_patterns.Given as goal

abbrev pub invariant-loop-pattern : goal.invariant-loop-pattern
invariant-loop-pattern l =
    with_all l.fn.firsts (flat_map (λ h. typed_occurrences h.terms l.shape) l.patterns)
    ≡ with_all l.firsts (flat_map (λ h. typed_occurrences h.terms l.shape) (drop l.pattern-index l.patterns))
