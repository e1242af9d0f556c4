use Rattle.std.proofs.Common.{◌≡◌, [], map, sym, ap, ◌∙◌, subst, IfOk}
use Rattle.std.specs.Option.{option_map_or}
use Rattle.std.proofs.lemmas.Bool.{and_parts}
use Rattle.dbn_value.specs.Order.{value_cmp}
use Rattle.dbn_value.specs.Scope.{bind, value_of}
use Rattle.dbn_instance.specs.Facts.{AreInRange, after_action, after_changes}
use Rattle.dbn_instance.specs.Grounding.{grounded}
use Rattle.dbn_core.specs.Fire.{acted, performed}
use Rattle.dbn_core.proofs.FitLaws.{in_range}
use Rattle.dbn_slow.proofs.actions.perform.Goals as goal

pub net_changes-requires-clause-deletes : goal.net_changes-requires-clause-deletes
net_changes-requires-clause-deletes c =
    let a = c.action_at-action.result.now in
    subst (AreInRange c.args.instance.now) (sym c.in_ok-deletes.ensures)
    (in_range c.args.net.now a.params c.in_ok-args.args a.deletes c.args.instance.now c.requires.relations (c.requires.deletes a c.action_at-action.ensures.value))

pub net_changes-requires-clause-adds : goal.net_changes-requires-clause-adds
net_changes-requires-clause-adds c =
    let a = c.action_at-action.result.now in
    subst (AreInRange c.args.instance.now) (sym c.in_ok-adds.ensures)
    (in_range c.args.net.now a.params c.in_ok-args.args a.adds c.args.instance.now c.requires.relations (and_parts _ _ c.action_at-action.ensures.fits).0)

pub returns : goal.returns
returns c =
    let a = c.action_at-action.result.now in
    let db = c.args.instance.now in
    let args : c.in_ok-args.args ≡ map (value_of (bind c.args.scope.now c.args.values.now [])) c.args.call.now.args =
    c.in_ok-args.ensures ∙ ap (λ scope. map (value_of (bind scope c.args.values.now [])) c.as_slice.result.now) c.as_slice-2.ensures
    ∙ ap (map (value_of (bind c.args.scope.now c.args.values.now []))) c.as_slice.ensures in
    let whole : after_changes value_cmp c.in_ok-changes.changes db ≡ acted c.args.net.now (bind c.args.scope.now c.args.values.now []) c.args.call.now db =
    c.in_ok-changes.ensures.leads
    ∙ ap (λ gone. after_action value_cmp gone c.in_ok-adds.adds db) c.in_ok-deletes.ensures
    ∙ ap (λ new. after_action value_cmp (grounded a.params c.in_ok-args.args a.deletes) new db) c.in_ok-adds.ensures
    ∙ ap (λ given. performed a given db) args
    ∙ sym (ap (λ found. option_map_or (λ b. performed b (map (value_of (bind c.args.scope.now c.args.values.now [])) c.args.call.now.args) db) found db) c.action_at-action.ensures.value) in
    subst (λ made. IfOk c.changed.result (λ after. after ≡ made)) (ap (λ cs. after_changes value_cmp cs db) c.as_slice-3.ensures ∙ whole) c.changed.ensures
