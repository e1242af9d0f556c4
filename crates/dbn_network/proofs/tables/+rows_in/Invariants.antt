use Rattle.dbn_network.proofs.tables.+rows_in.Given as goal

abbrev pub decreases-rows_in : goal.decreases-rows_in
decreases-rows_in g l = l.node
