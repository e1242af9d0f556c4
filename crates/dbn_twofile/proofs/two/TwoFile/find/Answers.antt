use Rattle.std.proofs.Common.{rules}
use Rattle.dbn_twofile.proofs.two.TwoFile.find.Goals as goal

pub returns-in-Err-clause-not_made : goal.returns-in-Err-clause-not_made
returns-in-Err-clause-not_made g c is x y told_x told_y = c.look.ensures.not_made (search rules) x y told_x told_y

pub returns-in-Err-clause-not_a_store : goal.returns-in-Err-clause-not_a_store
returns-in-Err-clause-not_a_store g c is x y told_x told_y = c.look.ensures.not_a_store (search rules) x y told_x told_y
