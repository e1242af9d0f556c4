use Rattle.std.proofs.Common.{List, ℕ, Option, None, rules, refl, ap, subst}
use Rattle.dbn_model.specs.Lines.{due_lines}
use Rattle.dbn_model.specs.Runs.{text_of}
use Rattle.dbn_store.specs.States.{Situation, situation}
use Rattle.dbn_engine.specs.Steps.{step}
use Rattle.dbn_top.specs.Calls.{stream}
use Rattle.dbn_top.specs.Due.{replies}
use Rattle.dbn_top.specs.Endings.{BreaksOff}
use Rattle.dbn_top.specs.Starts.{run_in_memory, terms_of, is_there}
use Rattle.dbn_top.specs.Writing.{Writes}
use Rattle.dbn_top.proofs.Verbs.{try_ends, refused_try, try_kind, moved_writes, moved_breaks}
use Rattle.dbn_top.proofs.trying.run_try.Goals as goal

pub returns-in-Ok-clause-kind : goal.returns-in-Ok-clause-kind
returns-in-Ok-clause-kind g c =
    let never = c.serve_in_memory.ensures.never in try_kind c.serve_in_memory.result never.0 never.2 never.3

pub returns-in-Ok-clause-ends : goal.returns-in-Ok-clause-ends
returns-in-Ok-clause-ends g c x y given told =
    let limits = c.args.limits.now in
    let s = situation c.in-Ok.accepted.net c.in-Ok.accepted.at in
    let accepted = c.in-Ok.ensures.accepted given.net (told.net refl) in
    let commands_told = told.commands (ap (λ (o : Option Situation). is_there o) accepted.1) in
    let commands = stream (g.C.Source.left c.args.commands.now) (g.C.Source.left c.serve_in_memory.new.commands) (g.C.Source.faults c.args.commands.now) (g.C.Source.faults c.serve_in_memory.new.commands) in
    let writes = moved_writes c.serve_in_memory.result _ _ _ _ _ _ accepted.2 (c.serve_in_memory.ensures.writes given.commands commands_told) (g.K.Sink.faults c.args.out.now) in
    let breaks = moved_breaks c.serve_in_memory.result _ commands _ _ _ _ _ _ accepted.2 (c.serve_in_memory.ensures.breaks given.commands commands_told) (g.K.Sink.faults c.args.out.now) in
    let out = stream (g.K.Sink.taken c.args.out.now) (g.K.Sink.taken c.serve_in_memory.new.out) (g.K.Sink.faults c.args.out.now) (g.K.Sink.faults c.serve_in_memory.new.out) in
    try_ends c.serve_in_memory.result limits _ commands out given s accepted.1 c.in-Ok.ensures.end (search rules)
    (subst (λ (text : List ℕ). Writes c.serve_in_memory.result (replies limits None given.commands (run_in_memory text s)) out) accepted.0 writes)
    (subst (λ (text : List ℕ). BreaksOff c.serve_in_memory.result (due_lines limits.input_bytes given.commands) commands out (text_of (step (terms_of limits None)) (run_in_memory text s))) accepted.0 breaks)
    c.serve_in_memory.ensures.end c.serve_in_memory.ensures.source.1

pub returns-in-Err-clause-ends : goal.returns-in-Err-clause-ends
returns-in-Err-clause-ends g c x y given told =
    refused_try c.in-Err.status c.args.limits.now _ _ _ given (λ then. c.in-Err.ensures.refused given.net then (told.net refl)) c.in-Err.ensures.never.0 c.in-Err.ensures.never.1 c.in-Err.ensures.read.0 c.in-Err.ensures.write.0 (refl, refl) c.in-Err.ensures.quiet_err
