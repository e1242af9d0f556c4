use Rattle.std.proofs.Common.{◌≡◌, true, ap, ◌∙◌}
use Rattle.dbn_net.specs.Tables.{relation_shapes, places}
use Rattle.dbn_core.proofs.FitLaws.{tokens_length, has_shapes}
use Rattle.dbn_slow.proofs.slow.SlowCoreCore.tokens.Goals as goal

pub shown-requires-clause-places : goal.shown-requires-clause-places
shown-requires-clause-places c =
    let live : c.self.inside.live ≡ true = ap (λ s. s.2) c.self.view_is ∙ c.requires.live in
    tokens_length c.self.inside.at.marking (places c.self.inside.net) (c.self.invariant live).tokens_fit

pub shown-requires-clause-fits : goal.shown-requires-clause-fits
shown-requires-clause-fits c =
    let live : c.self.inside.live ≡ true = ap (λ s. s.2) c.self.view_is ∙ c.requires.live in
    has_shapes c.self.inside.at.instance (relation_shapes c.self.inside.net) (c.self.invariant live).facts_fit
