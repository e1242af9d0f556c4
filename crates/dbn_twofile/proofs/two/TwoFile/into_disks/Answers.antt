use Rattle.dbn_twofile.proofs.two.TwoFile.into_disks.Goals as goal

pub returns-then-self-clause-settled : goal.returns-then-self-clause-settled
returns-then-self-clause-settled g c live = let two = c.args.self.two live in (two.other_settled, two.chosen_settled)

pub returns-clause-settled : goal.returns-clause-settled
returns-clause-settled g c live = let two = c.args.self.two live in (two.chosen_settled, two.other_settled)
