use Rattle.std.proofs.Common.{sym, ◌∙◌}
use Rattle.dbn_keeper.proofs.Opened.{with_base}
use Rattle.dbn_keeper.proofs.find.look.Goals as goal

pub returns-in-Some-clause-found : goal.returns-in-Some-clause-found
returns-in-Some-clause-found g c x told =
    with_base c.in-Marked.form c.in-Some.base c.in-Marked.generation x (sym c.in-Marked.is ∙ c.in_ok-settle.ensures.opening x told)
    (sym c.in-Some.is ∙ c.in_ok-base-in-Marked.ensures.base x (c.settle.ensures.same ∙ told))
