use Rattle.std.proofs.Common.{◌≡◌, ◌<◌, true, length, sym, ap, ◌∙◌, subst}
use Rattle.std.proofs.lemmas.List.{length-map}
use Rattle.dbn_net.specs.Tables.{relations, relation_shape, relation_shapes}
use Rattle.dbn_core.proofs.FitLaws.{rows_length}
use Rattle.dbn_slow.proofs.slow.SlowCoreCore.facts.Goals as goal

pub rows-requires : goal.rows-requires
rows-requires c =
    let net = c.self.inside.net in
    let live : c.self.inside.live ≡ true = ap (λ s. s.2) c.self.view_is ∙ c.requires.live in
    let good = c.self.invariant live in
    let same : length c.self.inside.at.instance ≡ length (relations net) = rows_length c.self.inside.at.instance (relation_shapes net) good.facts_fit ∙ length-map (relations net) relation_shape in
    subst (λ n. c.args.rel < n) (sym same) (subst (λ s. c.args.rel < length (relations s.0)) (sym c.self.view_is) c.requires.within)
