use Rattle.std.proofs.Common.{◌≡◌, Some, refl, sym, ap, subst}
use Rattle.std.specs.Prelude.{IfOk, is_some}
use Rattle.dbn_model.specs.Lines.Line.{Text}
use Rattle.dbn_command.specs.declared.reply.Reply.TheVariants as reply
use Rattle.dbn_store.specs.States.{situation, run_state}
use Rattle.dbn_engine.specs.Steps.{Answer, command_answer, asked_answer, line_answer}
use Rattle.dbn_engine.specs.Obeying.{Obeyed, Changes, terms_of}
use Rattle.dbn_engine.proofs.Commands.{no_work, nothing_done, asked_is}
use Rattle.dbn_engine.proofs.obeying.obey_bytes.Goals as goal

pub obey-requires-clause-of_net : goal.obey-requires-clause-of_net
obey-requires-clause-of_net g c =
    let terms = terms_of c.args.terms.now in
    let s = situation (g.C.Core.rules c.args.core.now) (g.C.Core.state c.args.core.now) in
    let old = g.K.Keeper.state c.args.keeper.now in
    let r = run_state s old in
    let live = g.C.Core.live c.args.core.now in
    let is = asked_is s.net c.net.result.now (is_some old.cap) c.args.terms.now.folder c.args.bytes.now _ c.net.ensures c.requires.folder c.in-Ok.ensures in
    c.lines_ask_for_what_the_net_has.ensures s.net (is_some old.cap) c.args.bytes.now c.in-Ok.command is

pub returns-in-Ok-clause-done : goal.returns-in-Ok-clause-done
returns-in-Ok-clause-done g c =
    let terms = terms_of c.args.terms.now in
    let s = situation (g.C.Core.rules c.args.core.now) (g.C.Core.state c.args.core.now) in
    let old = g.K.Keeper.state c.args.keeper.now in
    let r = run_state s old in
    let live = g.C.Core.live c.args.core.now in
    let is = asked_is s.net c.net.result.now (is_some old.cap) c.args.terms.now.folder c.args.bytes.now _ c.net.ensures c.requires.folder c.in-Ok.ensures in
    let due : line_answer terms r (Text c.args.bytes.now) ≡ command_answer terms r c.in-Ok.command = ap (asked_answer terms r) is in
    subst (λ (a : Answer). IfOk c.obey.result (λ made. Obeyed a (g.C.Core.live c.obey.new.core) (situation (g.C.Core.rules c.obey.new.core) (g.C.Core.state c.obey.new.core)) (g.K.Keeper.state c.obey.new.keeper) made)) (sym due) c.obey.ensures.done

pub returns-in-Ok-clause-changes : goal.returns-in-Ok-clause-changes
returns-in-Ok-clause-changes g c =
    let terms = terms_of c.args.terms.now in
    let s = situation (g.C.Core.rules c.args.core.now) (g.C.Core.state c.args.core.now) in
    let old = g.K.Keeper.state c.args.keeper.now in
    let r = run_state s old in
    let live = g.C.Core.live c.args.core.now in
    let is = asked_is s.net c.net.result.now (is_some old.cap) c.args.terms.now.folder c.args.bytes.now _ c.net.ensures c.requires.folder c.in-Ok.ensures in
    let due : line_answer terms r (Text c.args.bytes.now) ≡ command_answer terms r c.in-Ok.command = ap (asked_answer terms r) is in
    subst (λ (a : Answer). Changes a s old (g.K.Keeper.state c.obey.new.keeper)) (sym due) c.obey.ensures.changes

pub returns-in-Err-Line-clause-changes : goal.returns-in-Err-Line-clause-changes
returns-in-Err-Line-clause-changes g c =
    no_work (g.K.Keeper.state c.args.keeper.now) _

pub returns-in-Err-Line-clause-done : goal.returns-in-Err-Line-clause-done
returns-in-Err-Line-clause-done g c =
    let terms = terms_of c.args.terms.now in
    let s = situation (g.C.Core.rules c.args.core.now) (g.C.Core.state c.args.core.now) in
    let old = g.K.Keeper.state c.args.keeper.now in
    let r = run_state s old in
    let live = g.C.Core.live c.args.core.now in
    let is = asked_is s.net c.net.result.now (is_some old.cap) c.args.terms.now.folder c.args.bytes.now _ c.net.ensures c.requires.folder (rw c.in-Err-Line.field-0-is at c.in-Err-Line.ensures) in
    nothing_done (line_answer terms r (Text c.args.bytes.now)) live live s s old (Some (reply.Line)) c.said.result (ap (asked_answer terms r) is) c.said.ensures c.requires.joined refl c.requires.joined.core

pub returns-in-Err-Unknown-clause-changes : goal.returns-in-Err-Unknown-clause-changes
returns-in-Err-Unknown-clause-changes g c =
    no_work (g.K.Keeper.state c.args.keeper.now) _

pub returns-in-Err-Unknown-clause-done : goal.returns-in-Err-Unknown-clause-done
returns-in-Err-Unknown-clause-done g c =
    let terms = terms_of c.args.terms.now in
    let s = situation (g.C.Core.rules c.args.core.now) (g.C.Core.state c.args.core.now) in
    let old = g.K.Keeper.state c.args.keeper.now in
    let r = run_state s old in
    let live = g.C.Core.live c.args.core.now in
    let is = asked_is s.net c.net.result.now (is_some old.cap) c.args.terms.now.folder c.args.bytes.now _ c.net.ensures c.requires.folder (rw c.in-Err-Unknown.field-0-is at c.in-Err-Unknown.ensures) in
    nothing_done (line_answer terms r (Text c.args.bytes.now)) live live s s old (Some (reply.Unknown c.in-Err-Unknown.name)) c.said-in-Err-Unknown.result (ap (asked_answer terms r) is) (rw c.in-Err-Unknown.field-0-is at c.said-in-Err-Unknown.ensures) c.requires.joined refl c.requires.joined.core

pub returns-in-Err-Shape-clause-changes : goal.returns-in-Err-Shape-clause-changes
returns-in-Err-Shape-clause-changes g c =
    no_work (g.K.Keeper.state c.args.keeper.now) _

pub returns-in-Err-Shape-clause-done : goal.returns-in-Err-Shape-clause-done
returns-in-Err-Shape-clause-done g c =
    let terms = terms_of c.args.terms.now in
    let s = situation (g.C.Core.rules c.args.core.now) (g.C.Core.state c.args.core.now) in
    let old = g.K.Keeper.state c.args.keeper.now in
    let r = run_state s old in
    let live = g.C.Core.live c.args.core.now in
    let is = asked_is s.net c.net.result.now (is_some old.cap) c.args.terms.now.folder c.args.bytes.now _ c.net.ensures c.requires.folder (rw c.in-Err-Shape.field-0-is at c.in-Err-Shape.ensures) in
    nothing_done (line_answer terms r (Text c.args.bytes.now)) live live s s old (Some (reply.Shape)) c.said-in-Err-Shape.result (ap (asked_answer terms r) is) c.said-in-Err-Shape.ensures c.requires.joined refl c.requires.joined.core

pub returns-in-Err-Memory-clause-changes : goal.returns-in-Err-Memory-clause-changes
returns-in-Err-Memory-clause-changes g c =
    no_work (g.K.Keeper.state c.args.keeper.now) _
