use Rattle.std.proofs.Common.{◌≡◌, drop}
use Rattle.std.specs.List.{list_all}
use Rattle.dbn_reader.specs.Terms.{tested}
use Rattle.dbn_reader.proofs.terms.patterns_pass.Given as goal

abbrev pub invariant-loop-pattern : goal.invariant-loop-pattern
invariant-loop-pattern l =
    list_all (λ p. tested l.test l.scope p.terms l.shape) l.patterns ≡ list_all (λ p. tested l.test l.scope p.terms l.shape) (drop l.pattern-index l.patterns)
