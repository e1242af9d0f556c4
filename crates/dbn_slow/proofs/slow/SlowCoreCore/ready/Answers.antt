use Rattle.std.proofs.Common.{subst}
use Rattle.dbn_core.specs.Fire.{refusal_at}
use Rattle.dbn_core.specs.Answers.{Tells}
use Rattle.dbn_core.proofs.FitLaws.{stands_at}
use Rattle.dbn_slow.proofs.MadeLaws.{tells_at}
use Rattle.dbn_slow.proofs.slow.SlowCoreCore.ready.Goals as goal

pub test-requires-clause-stands : goal.test-requires-clause-stands
test-requires-clause-stands c = stands_at c.self.inside.net c.args.t c.transition_at.result.now c.decls-net.ensures.net c.transition_at.ensures.value

pub returns : goal.returns
returns c =
    subst (λ s. Tells (refusal_at s.0 s.1 c.args.t c.args.row.now) c.test.result) c.self.view_is
    (tells_at c.self.inside.net c.self.inside.at c.args.t c.transition_at.result.now c.args.row.now c.test.result c.transition_at.ensures.value c.test.ensures)
