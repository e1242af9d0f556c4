use Rattle.dbn_net.proofs.InsideLaws.{inside, row_values_in}
use Rattle.dbn_net.proofs.laws.enabled_rows_are_of_the_state.Goals as goal

pub returns-clause-cells : goal.returns-clause-cells
returns-clause-cells c = inside

pub returns-clause-values : goal.returns-clause-values
returns-clause-values c = row_values_in
