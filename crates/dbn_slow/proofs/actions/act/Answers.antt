use Rattle.std.proofs.Common.{◌≡◌, true, [], sym, ap, ◌∙◌, subst}
use Rattle.std.proofs.lemmas.List.{length-map}
use Rattle.dbn_value.specs.Scope.{bind}
use Rattle.dbn_formula.specs.Distinct.{distinct_vars}
use Rattle.dbn_net.specs.Tables.{relations, relation_shape, relation_shapes}
use Rattle.dbn_net.specs.Good.{RowsFit}
use Rattle.dbn_core.specs.Fire.{called}
use Rattle.dbn_core.proofs.FitLaws.{acted_fits, has_shapes, rows_length, scope_once}
use Rattle.dbn_core.proofs.ShapedLaws.{IsTyped, bind_typed}
use Rattle.dbn_slow.proofs.actions.act.Goals as goal

pub perform-requires-clause-relations : goal.perform-requires-clause-relations
perform-requires-clause-relations c = rows_length c.args.instance.now (relation_shapes c.args.net.now) c.requires.facts ∙ length-map (relations c.args.net.now) relation_shape

pub perform-requires-clause-deletes : goal.perform-requires-clause-deletes
perform-requires-clause-deletes c = c.requires.stands.deletes c.in-Some.call.action

pub committed-requires : goal.committed-requires
committed-requires c =
    let net = c.args.net.now in
    let t = c.args.transition.now in
    let env = bind c.args.scope.now c.args.values.now [] in
    let once = subst (λ s. distinct_vars s ≡ true) (sym c.requires.scope) (scope_once net t c.requires.stands.fits) in
    let typed = subst (λ s. IsTyped s env) c.requires.scope (bind_typed c.args.scope.now c.args.values.now [] once c.requires.values) in
    let whole = ap (λ call. called net env call c.args.instance.now) c.in-Some.is in
    has_shapes c.in_ok-after-in-Some.after (relation_shapes net)
    (subst (λ db. RowsFit db (relation_shapes net)) (whole ∙ sym c.in_ok-after-in-Some.ensures) (acted_fits net t env c.args.instance.now c.requires.stands typed c.requires.facts))
