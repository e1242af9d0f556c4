use Rattle.std.proofs.Common.{◌≡◌, [], drop}
use Rattle.dbn_value.specs.Scope.{bind}
use Rattle.dbn_net.specs.Wants.{bound_tokens}
use Rattle.dbn_arc.specs.Sums.{with_all}
use Rattle.dbn_arc.proofs.instantiation.instantiate.Given as goal

abbrev pub invariant-loop-arc : goal.invariant-loop-arc
invariant-loop-arc l = with_all l.sums.entries (bound_tokens (bind l.scope l.row []) (drop l.arc-index l.arcs)) ≡ with_all [] (bound_tokens (bind l.scope l.row []) l.arcs)
