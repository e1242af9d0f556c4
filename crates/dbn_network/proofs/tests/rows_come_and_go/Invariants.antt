use Rattle.std.proofs.Common.{◌≡◌, length}
use Rattle.dbn_network.specs.Worked.{IsReady}
use Rattle.dbn_network.proofs.tests.rows_come_and_go.Given as goal

abbrev pub invariant-loop-relation : goal.invariant-loop-relation
invariant-loop-relation g l = IsReady l.network × (length l.network.nodes ≡ 16)
