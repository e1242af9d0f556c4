use Rattle.dbn_plan.proofs.ReferringLaws.{none_free}
use Rattle.dbn_plan.proofs.referring.is_closed.Goals as goal

pub returns : goal.returns
returns c e = none_free c.args.f.now c.in_ok-vars.vars c.in_ok-vars.ensures (c.is_empty.ensures.0 e)
