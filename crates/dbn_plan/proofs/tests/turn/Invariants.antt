use Rattle.dbn_plan.proofs.tests.turn.Given as goal

abbrev pub ghosts-apply_one : goal.ghosts-apply_one
ghosts-apply_one g a = record { name = a.blank.name; parts = a.blank.parts }
