use Rattle.std.proofs.Common.{sym, subst}
use Rattle.dbn_formula.specs.Solutions.{HasShape}
use Rattle.dbn_net.specs.Enabled.{shape_at}
use Rattle.dbn_core.proofs.GoodLaws.{good_at}
use Rattle.dbn_slow.proofs.slow.SlowCoreCore.fire.Goals as goal

pub invariant_of-self : goal.invariant_of-self
invariant_of-self c = λ live.
    good_at c.self.inside.net c.self.inside.at c.in-Ok.made.at c.args.t c.args.row.now c.in-Ok.made.fired c.decls-net.ensures.net (c.self.invariant live)
    (subst (λ s. HasShape c.args.row.now (shape_at s.0 c.args.t)) (sym c.self.view_is) c.requires.shape) c.in-Ok.ensures
