use Rattle.std.proofs.Common.{ap, sym, ◌∙◌}
use Rattle.std.proofs.lemmas.Result.{IfOk-weaker}
use Rattle.dbn_formula.specs.declared.formula.Formula.TheVariants.{Exists}
use Rattle.dbn_plan.specs.Easing.{eased_body, eased}
use Rattle.dbn_plan.proofs.EasingLaws.{eased_exists, eased_none}
use Rattle.dbn_plan.proofs.easing.eased.Goals as goal

pub returns-in_ok-body-in-Exists-2 : goal.returns-in_ok-body-in-Exists-2
returns-in_ok-body-in-Exists-2 c =
    ap (λ xs. Exists xs c.in_ok-body-in-Exists-2.body) c.in_ok-vars-in-Exists.ensures
    ∙ ap (Exists c.in-Exists.vars) (c.in_ok-body-in-Exists-2.ensures ∙ c.in_ok-body-in-Exists.ensures ∙ ap eased_body c.get.ensures)
    ∙ sym (ap eased c.in-Exists.is ∙ eased_exists c.in-Exists.vars c.in-Exists.body)

pub returns-in_default : goal.returns-in_default
returns-in_default c = IfOk-weaker c.eased_body-in_default.result _ _ (λ g e. e ∙ eased_none c.args.form.now c.in_default.not-Exists) c.eased_body-in_default.ensures
