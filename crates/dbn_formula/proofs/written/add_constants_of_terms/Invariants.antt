use Rattle.std.proofs.Common.{◌≡◌, ◌++◌, take}
use Rattle.std.specs.List.{flat_map}
use Rattle.dbn_formula.specs.Answers.{constant_of}
use Rattle.dbn_formula.proofs.written.add_constants_of_terms.Given as goal

abbrev pub invariant-loop-term : goal.invariant-loop-term
invariant-loop-term l = l.out ≡ l.fn.out ++ flat_map constant_of (take l.term-index l.terms)
