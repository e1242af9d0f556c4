use Rattle.dbn_scratch.proofs.tests.answered.Goals as goal

pub answers-requires : goal.answers-requires
answers-requires c = (c.args.rels.now, c.requires.typed, c.requires.shapes)
