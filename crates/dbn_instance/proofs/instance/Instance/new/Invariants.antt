use Rattle.std.proofs.Common.{◌≡◌, [], replicate}
use Rattle.dbn_instance.proofs.instance.Instance.new.Given as goal

abbrev pub invariant-loop : goal.invariant-loop
invariant-loop g l = l.empty.items ≡ replicate l.counter []
