use Rattle.dbn_network.proofs.network.Network.table.Given as goal

abbrev pub ghosts-table_of_node : goal.ghosts-table_of_node
ghosts-table_of_node g a = record { name = a.blank.name; parts = a.blank.parts }
