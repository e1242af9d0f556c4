use Rattle.dbn_network.proofs.network.Network.is_empty.Given as goal

abbrev pub ghosts-has_none : goal.ghosts-has_none
ghosts-has_none g a = record { name = a.blank.name; parts = a.blank.parts }
