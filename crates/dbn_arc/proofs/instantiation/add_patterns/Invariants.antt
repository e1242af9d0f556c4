use Rattle.std.proofs.Common.{◌≡◌, [], map, drop}
use Rattle.dbn_value.specs.Scope.{bind}
use Rattle.dbn_net.specs.Wants.{bound_token}
use Rattle.dbn_arc.specs.Sums.{with_all}
use Rattle.dbn_arc.proofs.instantiation.add_patterns.Given as goal

abbrev pub invariant-loop-pattern : goal.invariant-loop-pattern
invariant-loop-pattern l =
    with_all l.sums.entries (map (bound_token (bind l.scope l.row []) l.place) (drop l.pattern-index l.patterns)) ≡ with_all l.fn.sums.entries (map (bound_token (bind l.scope l.row []) l.place) l.patterns)
