use Rattle.std.proofs.Common.{◌≡◌, [], map, take}
use Rattle.dbn_value.specs.Scope.{bind, value_of}
use Rattle.dbn_value.proofs.scope.row_of.Given as goal

abbrev pub invariant-loop-term : goal.invariant-loop-term
invariant-loop-term l = l.values.items ≡ map (value_of (bind l.scope l.row [])) (take l.term-index l.terms)
