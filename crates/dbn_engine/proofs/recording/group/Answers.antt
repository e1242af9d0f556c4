use Rattle.std.proofs.Common.{Some, refl, sym, ap, ◌∙◌}
use Rattle.dbn_keeper.specs.declared.opening.Form.{Form}
use Rattle.dbn_command.specs.declared.reply.Reply.TheVariants as reply
use Rattle.dbn_store.specs.States.{situation, run_state}
use Rattle.dbn_engine.specs.Steps.{is_too_old, group_answer}
use Rattle.dbn_engine.proofs.Commands.{no_work, nothing_done, group_old}
use Rattle.dbn_engine.proofs.recording.group.Goals as goal

pub returns-in_err-body-clause-changes : goal.returns-in_err-body-clause-changes
returns-in_err-body-clause-changes g c = no_work (g.K.Keeper.state c.args.keeper.now) _

pub returns-in-None-clause-changes : goal.returns-in-None-clause-changes
returns-in-None-clause-changes g c = no_work (g.K.Keeper.state c.args.keeper.now) _

pub returns-in-None-clause-done : goal.returns-in-None-clause-done
returns-in-None-clause-done g c =
    let s = situation (g.C.Core.rules c.args.core.now) (g.C.Core.state c.args.core.now) in
    let old = g.K.Keeper.state c.args.keeper.now in
    let r = run_state s old in
    let old_form = ap (λ (f : Form). is_too_old f c.args.members.now) (sym c.form.ensures) ∙ (rw c.in-None.is at c.in_ok-body.ensures) in
    nothing_done (group_answer r c.args.members.now) (g.C.Core.live c.args.core.now) (g.C.Core.live c.args.core.now) s s old (Some reply.OldStore) c.said.result (group_old r c.args.members.now old_form) c.said.ensures c.requires.joined refl c.requires.joined.core
