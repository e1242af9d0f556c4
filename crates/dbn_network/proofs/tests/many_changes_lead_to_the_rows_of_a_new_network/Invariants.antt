use Rattle.std.proofs.Common.{◌≡◌, length}
use Rattle.dbn_network.specs.Worked.{IsReady}
use Rattle.dbn_network.proofs.tests.many_changes_lead_to_the_rows_of_a_new_network.Given as goal

abbrev pub invariant-loop : goal.invariant-loop
invariant-loop g l = IsReady l.network × (length l.network.nodes ≡ 16)
