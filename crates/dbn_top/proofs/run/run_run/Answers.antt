use Rattle.std.proofs.Common.{refl, sym, ap, subst, ◌∙◌}
use Rattle.dbn_model.specs.Lines.{due_lines}
use Rattle.dbn_top.specs.declared.status.Status.{Status}
use Rattle.dbn_top.specs.Calls.{stream, device}
use Rattle.dbn_top.specs.Crashes.{RunLeaves}
use Rattle.dbn_top.specs.Endings.{KeepsDisks}
use Rattle.dbn_top.specs.Keepers.{status_of_end}
use Rattle.dbn_top.specs.Starts.{Found, run_in, is_there, terms_of}
use Rattle.std.proofs.lemmas.Bool.{true≢false}
use Rattle.dbn_top.proofs.Keepers.{keeps_from, rose_from}
use Rattle.dbn_top.proofs.Runs.{never_of_start, writes_of, breaks_of, is_read, is_write, is_disk, is_done, takes_few}
use Rattle.dbn_top.proofs.Tops.{run_crash, run_ends, refused_ends, refused_crash, run_kind, run_touches, run_disks, run_keeps, runs_there, not_store}
use Rattle.dbn_top.proofs.run.run_run.Goals as goal

pub returns-in-Ok-clause-crash : goal.returns-in-Ok-clause-crash
returns-in-Ok-clause-crash g c = λ net same given told a_settled b_settled r is.
    let a_told = told.a_told refl in
    let b_told = told.b_told refl in
    let begun = c.in-Ok.ensures.runs given.a given.b a_told b_told in
    let commands = told.commands (ap (λ (f : Found). is_there (run_in f)) begun) in
    let out = stream (g.K.Sink.taken c.args.out.now) (g.K.Sink.taken c.serve-served.new.out) (g.K.Sink.faults c.args.out.now) (g.K.Sink.faults c.serve-served.new.out) in
    subst (λ (s : Status). RunLeaves s c.args.limits.now (terms_of c.args.limits.now c.args.every) r (due_lines c.args.limits.now.input_bytes given.commands) out
    (device (g.D.Disk.state c.args.a) (g.D.Disk.state c.disks_of-a.result.0)) (device (g.D.Disk.state c.args.b) (g.D.Disk.state c.disks_of-a.result.1)))
    (sym c.status_of-status.ensures)
    (run_crash c.serve-served.result.end c.args.limits.now c.args.every given _ _ _ _ _ _ out (g.D.Disk.state c.args.a) (g.D.Disk.state c.args.b) (g.D.Disk.state c.disks_of-a.result.0) (g.D.Disk.state c.disks_of-a.result.1)
    begun c.in-Ok.ensures.over c.disks_of-a.ensures.over c.disks_of-a.ensures.all (c.in-Ok.ensures.store given.a given.b a_told b_told) c.serve-served.ensures.keeps c.in-Ok.ensures.cap
    (c.serve-served.ensures.serves given.commands commands) c.serve-served.ensures.begins (λ e. c.disks_of-a.ensures.settled (c.serve-served.ensures.joined e).keeper_live) a_told b_told a_settled b_settled r is)

pub returns-in-Ok-clause-keeps_disks : goal.returns-in-Ok-clause-keeps_disks
returns-in-Ok-clause-keeps_disks g c =
    subst (λ (s : Status). KeepsDisks s (device (g.D.Disk.state c.args.a) (g.D.Disk.state c.disks_of-a.result.0)) (device (g.D.Disk.state c.args.b) (g.D.Disk.state c.disks_of-a.result.1))) (sym c.status_of-status.ensures)
    (keeps_from _ _ (g.D.Disk.state c.args.a) (g.D.Disk.state c.args.b) (g.D.Disk.state c.disks_of-a.result.0) (g.D.Disk.state c.disks_of-a.result.1) c.in-Ok.ensures.over c.disks_of-a.ensures.over c.serve-served.ensures.keeps
    _ c.serve-served.ensures.disk_counts.later (λ never. c.serve-served.ensures.disk_counts.kept (λ e. never (ap status_of_end e))))

pub returns-in-Ok-clause-ends : goal.returns-in-Ok-clause-ends
returns-in-Ok-clause-ends g c = λ net same given told.
    let a_told = told.a_told refl in
    let b_told = told.b_told refl in
    let begun = c.in-Ok.ensures.runs given.a given.b a_told b_told in
    let commands = told.commands (ap (λ (f : Found). is_there (run_in f)) begun) in
    let serves = c.serve-served.ensures.serves given.commands commands in
    let status_is = c.status_of-status.ensures in
    rw status_is (run_ends (status_of_end c.serve-served.result.end) c.args.limits.now c.args.every net
    (stream (g.C.Source.left c.args.commands.now) (g.C.Source.left c.serve-served.new.commands) (g.C.Source.faults c.args.commands.now) (g.C.Source.faults c.serve-served.new.commands))
    (stream (g.K.Sink.taken c.args.out.now) (g.K.Sink.taken c.serve-served.new.out) (g.K.Sink.faults c.args.out.now) (g.K.Sink.faults c.serve-served.new.out))
    given _ begun (writes_of c.serve-served.result.end c.args.limits.now c.args.every given.commands _ _ _ _ _ _ _ _ refl serves _ _) (breaks_of c.serve-served.result.end c.args.limits.now c.args.every given.commands _ _ _ _ _ _ _ _ refl serves _ _ _ _)
    (λ e. c.serve-served.ensures.end (is_done _ e)) (λ e. c.serve-served.ensures.source_count.failed (is_read _ e)) (λ e. c.serve-served.ensures.sink_count.failed (is_write _ e)) same)

pub returns-in-Err-clause-ends : goal.returns-in-Err-clause-ends
returns-in-Err-clause-ends g c = λ net same given told.
    let why = c.in-Err.ensures.why given.a given.b (told.a_told refl) (told.b_told refl) in
    let never = c.refuse_store-status.ensures.never in
    refused_ends c.refuse_store-status.result c.in-Err.found.why c.args.limits.now c.args.every net _ _ given why c.refuse_store-status.ensures.quiet c.refuse_store-status.ensures.wanting
    (c.refuse_store-status.ensures.writes _ _ why) never.0 never.1 c.refuse_store-status.ensures.write same (refl, refl)

pub returns-in-Err-clause-crash : goal.returns-in-Err-clause-crash
returns-in-Err-clause-crash g c = λ net same given told a_settled b_settled r begun.
    let why = c.in-Err.ensures.why given.a given.b (told.a_told refl) (told.b_told refl) in
    refused_crash c.refuse_store-status.result c.in-Err.found.why c.args.limits.now c.args.every net net _ given why c.refuse_store-status.ensures.quiet c.refuse_store-status.ensures.wanting
    (g.D.Disk.state c.args.a) (g.D.Disk.state c.args.b) (g.D.Disk.state c.in-Err.found.a) (g.D.Disk.state c.in-Err.found.b) c.in-Err.ensures.stays (told.a_told refl) (told.b_told refl) a_settled b_settled c.refuse_store-status.ensures.never.0
    (c.lines_without_a_reply_change_nothing.ensures (terms_of c.args.limits.now c.args.every)) r begun

pub returns-in-Ok-clause-spares : goal.returns-in-Ok-clause-spares
returns-in-Ok-clause-spares g c = λ net same given told.
    let a_told = told.a_told refl in
    let b_told = told.b_told refl in
    let begun = c.in-Ok.ensures.runs given.a given.b a_told b_told in
    let store = c.in-Ok.ensures.store given.a given.b a_told b_told in
    record {
      order = record {
        a_idle = λ none. absurd (true≢false none);
        b_idle = λ none. absurd (true≢false none);
        fault = λ e. (
          refl,
          rose_from _ _ (g.D.Disk.state c.args.a) (g.D.Disk.state c.args.b) (g.D.Disk.state c.disks_of-a.result.0) (g.D.Disk.state c.disks_of-a.result.1) c.in-Ok.ensures.over c.disks_of-a.ensures.over
              (c.serve-served.ensures.disk_counts.failed (is_disk _ (sym c.status_of-status.ensures ∙ e))),
        );
      };
      stays = λ none. absurd (true≢false (sym (runs_there _ _ begun) ∙ none));
      bytes = λ all. absurd (true≢false (sym store ∙ not_store _ all));
    }

pub returns-in-Ok-clause-keeps : goal.returns-in-Ok-clause-keeps
returns-in-Ok-clause-keeps g c = λ net same.
    let is = c.status_of-status.ensures in
    run_keeps c.status_of-status.result c.args.limits.now c.args.every net
    (stream (g.C.Source.left c.args.commands.now) (g.C.Source.left c.serve-served.new.commands) (g.C.Source.faults c.args.commands.now) (g.C.Source.faults c.serve-served.new.commands))
    (stream (g.K.Sink.taken c.args.out.now) (g.K.Sink.taken c.serve-served.new.out) (g.K.Sink.faults c.args.out.now) (g.K.Sink.faults c.serve-served.new.out))
    (λ never. c.serve-served.ensures.source_count.kept (λ e. never (is ∙ ap status_of_end e))) (λ never. c.serve-served.ensures.sink_count.kept (λ e. never (is ∙ ap status_of_end e)))
    c.serve-served.ensures.told (c.serve-served.ensures.source_count.later, c.serve-served.ensures.sink_count.later) (takes_few c.serve-served.result.end _ _ c.serve-served.ensures.takes) same

pub returns-in-Ok-clause-kind : goal.returns-in-Ok-clause-kind
returns-in-Ok-clause-kind g c =
    let is = c.status_of-status.ensures in
    let never = never_of_start c.serve-served.result.end in
    run_kind c.args.every c.status_of-status.result (λ e. never.usage (sym is ∙ e)) (λ e. never.net (sym is ∙ e))

pub returns-in-Ok-clause-touches : goal.returns-in-Ok-clause-touches
returns-in-Ok-clause-touches g c = λ net same.
    let is = c.status_of-status.ensures in
    run_touches c.status_of-status.result c.args.limits.now c.args.every net _ _ (λ e. c.serve-served.ensures.source_count.failed (is_read _ (sym is ∙ e))) (λ e. c.serve-served.ensures.sink_count.failed (is_write _ (sym is ∙ e))) same

pub returns-in-Ok-clause-disks : goal.returns-in-Ok-clause-disks
returns-in-Ok-clause-disks g c =
    let is = c.status_of-status.ensures in
    run_disks c.status_of-status.result c.args.every (device (g.D.Disk.state c.args.a) (g.D.Disk.state c.disks_of-a.result.0)) (device (g.D.Disk.state c.args.b) (g.D.Disk.state c.disks_of-a.result.1))
    (λ e. rose_from _ _ (g.D.Disk.state c.args.a) (g.D.Disk.state c.args.b) (g.D.Disk.state c.disks_of-a.result.0) (g.D.Disk.state c.disks_of-a.result.1) c.in-Ok.ensures.over c.disks_of-a.ensures.over (c.serve-served.ensures.disk_counts.failed (is_disk _ (sym is ∙ e))))

pub returns-in-Err-clause-spares : goal.returns-in-Err-clause-spares
returns-in-Err-clause-spares g c = λ net same given told. record {
  order = record { a_idle = λ none. absurd (true≢false none); b_idle = λ none. absurd (true≢false none); fault = λ e. (refl, c.in-Err.ensures.failed (c.refuse_store-status.ensures.disk e)) };
  stays = λ none. c.in-Err.ensures.stays;
  bytes = λ all. c.in-Err.ensures.bytes given.a given.b (told.a_told refl) (told.b_told refl) (not_store _ all);
}
