use Rattle.dbn_net.proofs.LimitLaws.{net_small, columns_few, variables_few, row_short, params_once}
use Rattle.dbn_net.proofs.laws.limits_of_nets.Goals as goal

pub returns-clause-kinds : goal.returns-clause-kinds
returns-clause-kinds c = net_small

pub returns-clause-columns : goal.returns-clause-columns
returns-clause-columns c = columns_few

pub returns-clause-variables : goal.returns-clause-variables
returns-clause-variables c = variables_few

pub returns-clause-rows : goal.returns-clause-rows
returns-clause-rows c = row_short

pub returns-clause-parameters : goal.returns-clause-parameters
returns-clause-parameters c = params_once
