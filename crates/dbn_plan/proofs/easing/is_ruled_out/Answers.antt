use Rattle.std.proofs.Common.{ap, sym, ◌∙◌}
use Rattle.std.proofs.lemmas.Result.{IfOk-weaker}
use Rattle.dbn_plan.specs.Easing.{ruled_out}
use Rattle.dbn_plan.proofs.EasingLaws.{ruled_test, ruled_none}
use Rattle.dbn_plan.proofs.easing.is_ruled_out.Goals as goal

pub returns-in-Test : goal.returns-in-Test
returns-in-Test c =
    IfOk-weaker c.sides_ruled_out.result _ _ (λ out e. e ∙ sym (ap (ruled_out c.args.equations.now.keys) c.in-Test.is ∙ ruled_test c.args.equations.now.keys c.in-Test.cmp c.in-Test.left c.in-Test.right)) c.sides_ruled_out.ensures

pub returns-in_default : goal.returns-in_default
returns-in_default c = sym (ruled_none c.args.equations.now.keys c.args.part.now c.in_default.not-Test)
