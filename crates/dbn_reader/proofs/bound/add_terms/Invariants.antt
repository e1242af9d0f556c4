use Rattle.std.proofs.Common.{◌≡◌, drop}
use Rattle.dbn_net.specs.Naming.{typed_occurrences}
use Rattle.dbn_reader.specs.Bound.{with_all}
use Rattle.dbn_reader.proofs.bound.add_terms.Given as goal

abbrev pub invariant-loop-at : goal.invariant-loop-at
invariant-loop-at l = with_all l.fn.firsts (typed_occurrences l.terms l.shape) ≡ with_all l.firsts (typed_occurrences (drop l.at l.terms) (drop l.at l.shape))
