use Rattle.std.proofs.Common.{◌≡◌, ◌++◌, map, take}
use Rattle.std.specs.List.{flat_map}
use Rattle.dbn_formula.specs.Free.{occurrences}
use Rattle.dbn_formula.proofs.variables.+occurrences.Given as goal

abbrev pub invariant-add_each-loop-part : goal.invariant-add_each-loop-part
invariant-add_each-loop-part l = map (λ x. x.now) l.out ≡ map (λ x. x.now) l.fn.out ++ flat_map occurrences (take l.part-index l.parts)
