use Rattle.std.proofs.Common.{Some, false, refl, ap, ◌∙◌}
use Rattle.dbn_command.specs.declared.reply.Reply.{Reply}
use Rattle.dbn_store.specs.States.{situation, run_state}
use Rattle.dbn_engine.specs.Steps.{refused, fire_answer, fire_ready}
use Rattle.dbn_engine.proofs.Commands.{answered, no_work, nothing_done}
use Rattle.dbn_engine.proofs.recording.fire.Goals as goal

pub returns-in-Err-Refused-clause-done : goal.returns-in-Err-Refused-clause-done
returns-in-Err-Refused-clause-done g c =
    let s = situation (g.C.Core.rules c.args.core.now) (g.C.Core.state c.args.core.now) in
    let old = g.K.Keeper.state c.args.keeper.now in
    let r = run_state s old in
    let ready = rw c.in-Err-Refused.field-0-is at c.in-Err-Refused.ensures in
    nothing_done (fire_answer r c.args.t c.args.row.now) (g.C.Core.live c.args.core.now) (g.C.Core.live c.args.core.now) s s old (Some (refused c.in-Err-Refused.why)) c.said.result
    (ap (fire_ready r c.args.t c.args.row.now) ready) (c.said.ensures ∙ ap (λ (x : Reply). answered (Some x) false) (rw c.in-Err-Refused.field-0-is at c.refused.ensures)) c.requires.joined refl c.requires.joined.core

pub returns-in-Err-Refused-clause-changes : goal.returns-in-Err-Refused-clause-changes
returns-in-Err-Refused-clause-changes g c = no_work (g.K.Keeper.state c.args.keeper.now) _

pub returns-in-Err-Memory-clause-changes : goal.returns-in-Err-Memory-clause-changes
returns-in-Err-Memory-clause-changes g c = no_work (g.K.Keeper.state c.args.keeper.now) _
