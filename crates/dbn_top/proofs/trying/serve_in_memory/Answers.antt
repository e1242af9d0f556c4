use Rattle.std.proofs.Common.{List, None, sym, ap, subst, ◌∙◌}
use Rattle.dbn_keeper.specs.Memory.{mem_state}
use Rattle.dbn_model.specs.Lines.{due_lines}
use Rattle.dbn_model.specs.Runs.{text_of}
use Rattle.dbn_store.specs.States.{situation, run_state}
use Rattle.dbn_engine.specs.Steps.{step}
use Rattle.dbn_net.specs.declared.decl.Decl.{Decl}
use Rattle.dbn_top.specs.declared.status.Status.{Status}
use Rattle.dbn_top.specs.Calls.{stream}
use Rattle.dbn_top.specs.Due.{replies}
use Rattle.dbn_top.specs.Endings.{BreaksOff}
use Rattle.dbn_top.specs.Starts.{run_in_memory, terms_of}
use Rattle.dbn_top.specs.Writing.{Writes}
use Rattle.dbn_top.proofs.Runs.{writes_of, breaks_of, memory_run_is, memory_joined, never_of_start, is_done, is_read, is_write, is_disk, takes_few}
use Rattle.dbn_top.proofs.Pairs.{none_rose}
use Rattle.dbn_top.specs.Keepers.{status_of_end}
use Rattle.dbn_top.proofs.trying.serve_in_memory.Goals as goal

pub returns-clause-writes : goal.returns-clause-writes
returns-clause-writes g c all told =
    let k = c.new-keeper.result in
    let a = c.args.accepted in
    let same = ap (λ (net : List Decl). run_state (situation net c.in-Ok.core.1) (mem_state k.base k.generation k.bodies.items k.live)) c.in-Ok.ensures.net
    ∙ ap (λ at. run_state (situation a.net at) (mem_state k.base k.generation k.bodies.items k.live)) c.in-Ok.ensures.at
    ∙ memory_run_is a.text a.net a.at k.base k.generation k.bodies.items k.live c.new-keeper.ensures.base c.new-keeper.ensures.generation c.new-keeper.ensures.bodies c.new-keeper.ensures.live in
    subst (λ (s : Status). Writes s (replies c.args.limits.now None all (run_in_memory a.text (situation a.net a.at))) (stream (g.K.Sink.taken c.args.out.now) (g.K.Sink.taken c.serve-served.new.out) (g.K.Sink.faults c.args.out.now) (g.K.Sink.faults c.serve-served.new.out)))
    (sym c.status_of.ensures) (writes_of c.serve-served.result.end c.args.limits.now None all _ _ _ _ _ _ _ _ same (c.serve-served.ensures.serves all told) _ _)

pub returns-clause-breaks : goal.returns-clause-breaks
returns-clause-breaks g c all told =
    let k = c.new-keeper.result in
    let a = c.args.accepted in
    let same = ap (λ (net : List Decl). run_state (situation net c.in-Ok.core.1) (mem_state k.base k.generation k.bodies.items k.live)) c.in-Ok.ensures.net
    ∙ ap (λ at. run_state (situation a.net at) (mem_state k.base k.generation k.bodies.items k.live)) c.in-Ok.ensures.at
    ∙ memory_run_is a.text a.net a.at k.base k.generation k.bodies.items k.live c.new-keeper.ensures.base c.new-keeper.ensures.generation c.new-keeper.ensures.bodies c.new-keeper.ensures.live in
    subst (λ (s : Status). BreaksOff s (due_lines c.args.limits.now.input_bytes all)
    (stream (g.C.Source.left c.args.commands.now) (g.C.Source.left c.serve-served.new.commands) (g.C.Source.faults c.args.commands.now) (g.C.Source.faults c.serve-served.new.commands))
    (stream (g.K.Sink.taken c.args.out.now) (g.K.Sink.taken c.serve-served.new.out) (g.K.Sink.faults c.args.out.now) (g.K.Sink.faults c.serve-served.new.out)) (text_of (step (terms_of c.args.limits.now None)) (run_in_memory a.text (situation a.net a.at))))
    (sym c.status_of.ensures) (breaks_of c.serve-served.result.end c.args.limits.now None all _ _ _ _ _ _ _ _ same (c.serve-served.ensures.serves all told) _ _ _ _)

pub serve-served-requires-clause-joined : goal.serve-served-requires-clause-joined
serve-served-requires-clause-joined g c =
    let k = c.new-keeper.result in
    let a = c.args.accepted in
    let core = c.in-Ok.core in
    memory_joined a.text a.net a.at k.base k.generation k.bodies.items k.live c.new-keeper.ensures.base c.new-keeper.ensures.generation c.new-keeper.ensures.bodies c.new-keeper.ensures.live
    core.2 (situation core.0 core.1) c.in-Ok.ensures.live (ap (λ (net : List Decl). situation net core.1) c.in-Ok.ensures.net ∙ ap (situation a.net) c.in-Ok.ensures.at) c.requires.read c.requires.first

pub returns-clause-never : goal.returns-clause-never
returns-clause-never g c =
    let is = c.status_of.ensures in
    let never = never_of_start c.serve-served.result.end in
    (λ e. never.usage (sym is ∙ e), λ e. never.net (sym is ∙ e), λ e. never.store (sym is ∙ e), λ e. none_rose (c.serve-served.ensures.disk_counts.failed (is_disk _ (sym is ∙ e))))

pub returns-clause-end : goal.returns-clause-end
returns-clause-end g c e = c.serve-served.ensures.end (is_done _ (sym c.status_of.ensures ∙ e))

pub returns-clause-source : goal.returns-clause-source
returns-clause-source g c =
    let is = c.status_of.ensures in
    let count = c.serve-served.ensures.source_count in
    (count.later, λ e. count.failed (is_read _ (sym is ∙ e)), λ never. count.kept (λ e. never (is ∙ ap status_of_end e)))

pub returns-clause-sink : goal.returns-clause-sink
returns-clause-sink g c =
    let is = c.status_of.ensures in
    let count = c.serve-served.ensures.sink_count in
    (count.later, λ e. count.failed (is_write _ (sym is ∙ e)), λ never. count.kept (λ e. never (is ∙ ap status_of_end e)))

pub returns-clause-few : goal.returns-clause-few
returns-clause-few g c = takes_few c.serve-served.result.end _ _ c.serve-served.ensures.takes
