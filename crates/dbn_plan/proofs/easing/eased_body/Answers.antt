use Rattle.std.proofs.Common.{[], ap, sym, ◌∙◌, subst, map}
use Rattle.std.specs.List.{flat_map}
use Rattle.std.proofs.lemmas.Result.{IfOk-weaker}
use Rattle.dbn_plan.specs.Easing.{Adds, equated, eased_part}
use Rattle.dbn_plan.proofs.EasingLaws.{body_made, body_none}
use Rattle.dbn_plan.proofs.easing.eased_body.Goals as goal

pub returns-in_ok-made-in-And : goal.returns-in_ok-made-in-And
returns-in_ok-made-in-And c =
    body_made c.add_each.new.equations.keys c.in_ok-made-in-And.made c.in-And.parts c.as_slice.result.now c.args.body.now c.in-And.is c.as_slice.ensures
    (c.in_ok-made-in-And.ensures ∙ ap (map (eased_part c.add_each.new.equations.keys)) (c.as_slice-in-And.ensures ∙ sym c.as_slice.ensures))
    (subst (λ old. Adds old c.add_each.new.equations.keys (flat_map equated c.as_slice.result.now)) c.new-equations.ensures.empty c.in_ok-add_each-in-And.ensures)

pub returns-in_default : goal.returns-in_default
returns-in_default c = IfOk-weaker c.copy_in.result _ _ (λ g e. e ∙ body_none c.args.body.now c.in_default.not-And) c.copy_in.ensures
