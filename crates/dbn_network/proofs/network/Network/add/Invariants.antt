use Rattle.dbn_network.proofs.network.Network.add.Given as goal

abbrev pub ghosts-held_of_node : goal.ghosts-held_of_node
ghosts-held_of_node g a = record { name = a.blank.name; parts = a.blank.parts }
