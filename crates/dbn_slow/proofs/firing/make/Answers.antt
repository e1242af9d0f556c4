use Rattle.std.proofs.Common.{◌≤◌, [], length, take, sym, ap, ◌∙◌, subst}
use Rattle.dbn_value.specs.Order.{value_cmp}
use Rattle.dbn_value.specs.Scope.{bind}
use Rattle.dbn_formula.specs.Solutions.{HasShape}
use Rattle.dbn_net.specs.Tables.{types_of, scope_of, places}
use Rattle.dbn_net.specs.Wants.{wants}
use Rattle.dbn_core.specs.Moves.{AreGifts, CanTake}
use Rattle.dbn_core.proofs.FitLaws.{tokens_length}
use Rattle.dbn_core.proofs.ShapedLaws.{scope_shaped}
use Rattle.dbn_core.proofs.GoodLaws.{passed, takes, gifts}
use Rattle.dbn_slow.proofs.ViewLaws.{bound_within}
use Rattle.dbn_slow.proofs.firing.make.Goals as goal

pub act-requires-clause-values : goal.act-requires-clause-values
act-requires-clause-values c =
    let t = c.args.transition.now in
    subst (λ s. HasShape c.in_ok-values.values (types_of s)) (sym c.in_ok-scope.ensures)
    (subst (λ v. HasShape v (types_of (scope_of t))) (sym c.in_ok-values.ensures) (scope_shaped t c.args.row.now c.args.at.now.next c.requires.shape))

pub front-requires : goal.front-requires
front-requires c = subst (λ n. n ≤ length c.args.row.now) (sym c.len.ensures) (bound_within c.args.transition.now c.args.row.now c.requires.shape)

pub moved-requires-clause-takes : goal.moved-requires-clause-takes
moved-requires-clause-takes c =
    let t = c.args.transition.now in
    let row = c.args.row.now in
    subst (λ ws. CanTake value_cmp ws c.args.at.now.marking)
    (sym (c.in_ok-takes.ensures ∙ ap (λ b. wants (bind t.bound b []) t.ins) (c.in_ok-bound.ensures ∙ ap (λ n. take n row) c.len.ensures)))
    (takes c.args.net.now t c.args.at.now row c.requires.stands.fits c.requires.good.tokens_counted (passed c.args.net.now t c.args.at.now row c.requires.passed).on)

pub moved-requires-clause-gives : goal.moved-requires-clause-gives
moved-requires-clause-gives c =
    let t = c.args.transition.now in
    let env = bind c.in_ok-scope.scope c.in_ok-values.values [] in
    subst (AreGifts (length c.args.at.now.marking)) (sym (c.in_ok-gives.ensures ∙ ap (wants env) c.produced.ensures))
    (gifts c.args.net.now t env c.in_ok-acted.acted.committed (length c.args.at.now.marking) c.requires.stands.fits (tokens_length c.args.at.now.marking (places c.args.net.now) c.requires.good.tokens_fit))
