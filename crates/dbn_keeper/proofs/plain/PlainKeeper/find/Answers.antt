use Rattle.std.proofs.Common.{sym, ◌∙◌}
use Rattle.dbn_keeper.proofs.plain.PlainKeeper.find.Goals as goal

pub over-requires-clause-holds : goal.over-requires-clause-holds
over-requires-clause-holds g c x told = c.in-Ok.ensures.found x (sym c.look.ensures.same ∙ told)
