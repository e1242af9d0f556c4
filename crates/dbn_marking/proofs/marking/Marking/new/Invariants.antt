use Rattle.std.proofs.Common.{◌≡◌, [], replicate}
use Rattle.dbn_marking.proofs.marking.Marking.new.Given as goal

abbrev pub invariant-loop : goal.invariant-loop
invariant-loop g l = l.held.items ≡ replicate l.counter []
