use Rattle.std.proofs.Common.{◌≡◌, Some, refl, sym, ap, subst, ◌∙◌}
use Rattle.std.specs.Prelude.{IfOk}
use Rattle.dbn_model.specs.Lines.Line.{Text}
use Rattle.dbn_io.specs.declared.lines.Line.{Line as Given}
use Rattle.dbn_command.specs.declared.reply.Reply.TheVariants as reply
use Rattle.dbn_store.specs.States.{situation, run_state}
use Rattle.dbn_engine.specs.Steps.{Answer, line_answer}
use Rattle.dbn_engine.specs.Serving.{line_of}
use Rattle.dbn_engine.specs.Obeying.{Obeyed, Changes, terms_of}
use Rattle.dbn_engine.proofs.Commands.{no_work, nothing_done}
use Rattle.dbn_engine.proofs.obeying.obey_line.Goals as goal

pub returns-in-Bytes-clause-done : goal.returns-in-Bytes-clause-done
returns-in-Bytes-clause-done g c =
    let terms = terms_of c.args.terms.now in
    let s = situation (g.C.Core.rules c.args.core.now) (g.C.Core.state c.args.core.now) in
    let old = g.K.Keeper.state c.args.keeper.now in
    let r = run_state s old in
    let live = g.C.Core.live c.args.core.now in
    let is : line_of c.args.line.now ≡ Text c.as_slice.result.now = ap line_of c.in-Bytes.is ∙ ap Text (sym c.as_slice.ensures) in
    let due = ap (line_answer terms r) is in
    subst (λ (a : Answer). IfOk c.obey_bytes.result (λ made. Obeyed a (g.C.Core.live c.obey_bytes.new.core) (situation (g.C.Core.rules c.obey_bytes.new.core) (g.C.Core.state c.obey_bytes.new.core)) (g.K.Keeper.state c.obey_bytes.new.keeper) made)) (sym due) c.obey_bytes.ensures.done

pub returns-in-Bytes-clause-changes : goal.returns-in-Bytes-clause-changes
returns-in-Bytes-clause-changes g c =
    let terms = terms_of c.args.terms.now in
    let s = situation (g.C.Core.rules c.args.core.now) (g.C.Core.state c.args.core.now) in
    let old = g.K.Keeper.state c.args.keeper.now in
    let r = run_state s old in
    let live = g.C.Core.live c.args.core.now in
    let is : line_of c.args.line.now ≡ Text c.as_slice.result.now = ap line_of c.in-Bytes.is ∙ ap Text (sym c.as_slice.ensures) in
    let due = ap (line_answer terms r) is in
    subst (λ (a : Answer). Changes a s old (g.K.Keeper.state c.obey_bytes.new.keeper)) (sym due) c.obey_bytes.ensures.changes

pub returns-in-Long-clause-changes : goal.returns-in-Long-clause-changes
returns-in-Long-clause-changes g c =
    no_work (g.K.Keeper.state c.args.keeper.now) _

pub returns-in-Long-clause-done : goal.returns-in-Long-clause-done
returns-in-Long-clause-done g c =
    let terms = terms_of c.args.terms.now in
    let s = situation (g.C.Core.rules c.args.core.now) (g.C.Core.state c.args.core.now) in
    let old = g.K.Keeper.state c.args.keeper.now in
    let r = run_state s old in
    let live = g.C.Core.live c.args.core.now in
    nothing_done (line_answer terms r (line_of c.args.line.now)) live live s s old (Some reply.Long) c.said.result (ap (λ (l : Given). line_answer terms r (line_of l)) c.in-Long.is) c.said.ensures c.requires.joined refl c.requires.joined.core

pub returns-in-End-clause-changes : goal.returns-in-End-clause-changes
returns-in-End-clause-changes g c =
    no_work (g.K.Keeper.state c.args.keeper.now) _

pub returns-in-End-clause-done : goal.returns-in-End-clause-done
returns-in-End-clause-done g c =
    absurd (c.requires.some c.in-End.is)
