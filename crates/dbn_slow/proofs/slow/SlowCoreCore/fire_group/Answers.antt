use Rattle.std.proofs.Common.{sym, subst}
use Rattle.dbn_core.specs.Group.{AreMembers}
use Rattle.dbn_core.proofs.GoodLaws.{good_grouped}
use Rattle.dbn_slow.proofs.slow.SlowCoreCore.fire_group.Goals as goal

pub invariant_of-self : goal.invariant_of-self
invariant_of-self c = λ live.
    good_grouped c.self.inside.net 0 c.as_slice.result.now c.self.inside.at c.in-Ok.made.at c.in-Ok.made.fired c.decls-net.ensures.net (c.self.invariant live)
    (subst (AreMembers c.self.inside.net) (sym c.as_slice.ensures) (subst (λ s. AreMembers s.0 c.args.members.now) (sym c.self.view_is) c.requires.members)) c.in-Ok.ensures
