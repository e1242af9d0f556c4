use Rattle.std.proofs.Common.{Some, None, false, refl, ap, ◌∙◌}
use Rattle.dbn_instance.specs.Facts.{rows_of}
use Rattle.dbn_net.specs.Enabled.{bindings_at, shown}
use Rattle.dbn_command.specs.declared.reply.Reply.{Reply}
use Rattle.dbn_command.specs.declared.reply.Reply.TheVariants as reply
use Rattle.dbn_store.specs.States.{situation, run_state}
use Rattle.dbn_engine.specs.Steps.{command_answer}
use Rattle.dbn_engine.specs.Obeying.{terms_of}
use Rattle.dbn_engine.proofs.Commands.{answered, no_work, nothing_done}
use Rattle.dbn_engine.proofs.obeying.obey.Goals as goal

pub returns-in-Blank-clause-done : goal.returns-in-Blank-clause-done
returns-in-Blank-clause-done g c =
    let terms = terms_of c.args.terms.now in
    let s = situation (g.C.Core.rules c.args.core.now) (g.C.Core.state c.args.core.now) in
    let old = g.K.Keeper.state c.args.keeper.now in
    let r = run_state s old in
    let live = g.C.Core.live c.args.core.now in
    nothing_done (command_answer terms r c.args.command) live live s s old None c.silent.result (ap (command_answer terms r) c.in-Blank.is) c.silent.ensures c.requires.joined refl c.requires.joined.core

pub returns-in-Blank-clause-changes : goal.returns-in-Blank-clause-changes
returns-in-Blank-clause-changes g c =
    no_work (g.K.Keeper.state c.args.keeper.now) _

pub returns-in_err-reply-in-Bindings-clause-changes : goal.returns-in_err-reply-in-Bindings-clause-changes
returns-in_err-reply-in-Bindings-clause-changes g c =
    no_work (g.K.Keeper.state c.args.keeper.now) _

pub returns-in_ok-reply-in-Bindings-clause-changes : goal.returns-in_ok-reply-in-Bindings-clause-changes
returns-in_ok-reply-in-Bindings-clause-changes g c =
    no_work (g.K.Keeper.state c.args.keeper.now) _

pub returns-in_ok-reply-in-Bindings-clause-done : goal.returns-in_ok-reply-in-Bindings-clause-done
returns-in_ok-reply-in-Bindings-clause-done g c =
    let terms = terms_of c.args.terms.now in
    let s = situation (g.C.Core.rules c.args.core.now) (g.C.Core.state c.args.core.now) in
    let old = g.K.Keeper.state c.args.keeper.now in
    let r = run_state s old in
    let live = g.C.Core.live c.args.core.now in
    nothing_done (command_answer terms r c.args.command) live live s s old (Some (reply.Bindings c.in-Bindings.t (bindings_at s.net s.snapshot.instance s.snapshot.marking c.in-Bindings.t))) c.said.result (ap (command_answer terms r) c.in-Bindings.is)
    (c.said.ensures ∙ ap (λ (x : Reply). answered (Some x) false) c.in_ok-reply-in-Bindings.ensures) c.requires.joined refl c.requires.joined.core

pub returns-in_err-reply-in-Marking-clause-changes : goal.returns-in_err-reply-in-Marking-clause-changes
returns-in_err-reply-in-Marking-clause-changes g c =
    no_work (g.K.Keeper.state c.args.keeper.now) _

pub returns-in_ok-reply-in-Marking-clause-changes : goal.returns-in_ok-reply-in-Marking-clause-changes
returns-in_ok-reply-in-Marking-clause-changes g c =
    no_work (g.K.Keeper.state c.args.keeper.now) _

pub returns-in_ok-reply-in-Marking-clause-done : goal.returns-in_ok-reply-in-Marking-clause-done
returns-in_ok-reply-in-Marking-clause-done g c =
    let terms = terms_of c.args.terms.now in
    let s = situation (g.C.Core.rules c.args.core.now) (g.C.Core.state c.args.core.now) in
    let old = g.K.Keeper.state c.args.keeper.now in
    let r = run_state s old in
    let live = g.C.Core.live c.args.core.now in
    nothing_done (command_answer terms r c.args.command) live live s s old (Some (reply.Marking (shown s.net s.snapshot.instance s.snapshot.marking c.in-Marking.place))) c.said-in-Marking.result (ap (command_answer terms r) c.in-Marking.is)
    (c.said-in-Marking.ensures ∙ ap (λ (x : Reply). answered (Some x) false) c.in_ok-reply-in-Marking.ensures) c.requires.joined refl c.requires.joined.core

pub returns-in_err-reply-in-Facts-clause-changes : goal.returns-in_err-reply-in-Facts-clause-changes
returns-in_err-reply-in-Facts-clause-changes g c =
    no_work (g.K.Keeper.state c.args.keeper.now) _

pub returns-in_ok-reply-in-Facts-clause-changes : goal.returns-in_ok-reply-in-Facts-clause-changes
returns-in_ok-reply-in-Facts-clause-changes g c =
    no_work (g.K.Keeper.state c.args.keeper.now) _

pub returns-in_ok-reply-in-Facts-clause-done : goal.returns-in_ok-reply-in-Facts-clause-done
returns-in_ok-reply-in-Facts-clause-done g c =
    let terms = terms_of c.args.terms.now in
    let s = situation (g.C.Core.rules c.args.core.now) (g.C.Core.state c.args.core.now) in
    let old = g.K.Keeper.state c.args.keeper.now in
    let r = run_state s old in
    let live = g.C.Core.live c.args.core.now in
    nothing_done (command_answer terms r c.args.command) live live s s old (Some (reply.Facts (rows_of s.snapshot.instance c.in-Facts.rel))) c.said-in-Facts.result (ap (command_answer terms r) c.in-Facts.is)
    (c.said-in-Facts.ensures ∙ ap (λ (x : Reply). answered (Some x) false) c.in_ok-reply-in-Facts.ensures) c.requires.joined refl c.requires.joined.core
