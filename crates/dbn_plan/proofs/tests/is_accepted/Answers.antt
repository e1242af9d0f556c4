use Rattle.std.proofs.lemmas.Result.{IfOk-weaker}
use Rattle.dbn_plan.proofs.tests.is_accepted.Goals as goal

pub returns-in-Ok : goal.returns-in-Ok
returns-in-Ok c =
    IfOk-weaker c.passes.result _ _ (λ ok passes e. let p = passes e in record { typed = c.in-Ok.ensures.ok; once = p.once; all_free = p.each; is_safe = p.is_safe }) c.passes.ensures
