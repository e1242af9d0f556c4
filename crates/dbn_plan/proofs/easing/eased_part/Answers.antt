use Rattle.std.proofs.Common.{ap, sym, ◌∙◌}
use Rattle.std.proofs.lemmas.Result.{IfOk-weaker}
use Rattle.dbn_formula.specs.declared.formula.Formula.TheVariants.{Or}
use Rattle.dbn_plan.specs.Easing.{left_over, eased_part}
use Rattle.dbn_plan.proofs.EasingLaws.{part_or, part_none}
use Rattle.dbn_plan.proofs.easing.eased_part.Goals as goal

pub returns-in_ok-left-in-Or : goal.returns-in_ok-left-in-Or
returns-in_ok-left-in-Or c =
    ap Or (c.in_ok-left-in-Or.ensures ∙ ap (left_over c.args.equations.now.keys) c.as_slice.ensures) ∙ sym (ap (eased_part c.args.equations.now.keys) c.in-Or.is ∙ part_or c.args.equations.now.keys c.in-Or.parts)

pub returns-in_default : goal.returns-in_default
returns-in_default c = IfOk-weaker c.copy_in.result _ _ (λ g e. e ∙ part_none c.args.equations.now.keys c.args.part.now c.in_default.not-Or) c.copy_in.ensures
