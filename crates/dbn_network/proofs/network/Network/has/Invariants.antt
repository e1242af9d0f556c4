use Rattle.dbn_network.proofs.network.Network.has.Given as goal

abbrev pub ghosts-has_row : goal.ghosts-has_row
ghosts-has_row g a = record { name = a.blank.name; parts = a.blank.parts }
