use Rattle.std.proofs.Common.{◌≡◌}
use Rattle.dbn_network.specs.Worked.{scans, IsReady}
use Rattle.dbn_network.proofs.tests.rebuilt.Given as goal

abbrev pub invariant-loop-relation : goal.invariant-loop-relation
invariant-loop-relation g l = IsReady l.other × (l.other.nodes ≡ scans)
