use Rattle.std.proofs.Common.{◌≡◌, ◌++◌, map, take}
use Rattle.std.specs.List.{flat_map}
use Rattle.dbn_formula.specs.Free.{variable_of}
use Rattle.dbn_formula.proofs.variables.add_variables.Given as goal

abbrev pub invariant-loop-term : goal.invariant-loop-term
invariant-loop-term l = map (λ x. x.now) l.out ≡ map (λ x. x.now) l.fn.out ++ flat_map variable_of (take l.term-index l.terms)
