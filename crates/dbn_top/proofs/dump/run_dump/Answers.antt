use Rattle.std.proofs.Common.{refl, sym, subst, ◌∙◌, arith}
use Rattle.std.proofs.lemmas.Bool.{true≢false}
use Rattle.dbn_store.specs.States.{RunState}
use Rattle.dbn_engine.specs.Steps.{text_at}
use Rattle.dbn_top.specs.declared.status.Status.TheVariants as status
use Rattle.dbn_top.specs.Calls.{stream}
use Rattle.dbn_top.specs.Due.{with_store}
use Rattle.dbn_top.specs.Starts.{Found}
use Rattle.dbn_top.specs.Writing.{Writes, due}
use Rattle.dbn_top.proofs.Keepers.{stays_from, keeps_from}
use Rattle.dbn_top.proofs.Tops.{dump_ends, dump_touches, dump_keeps, dump_disks, said_never, not_store, same_self, files_self}
use Rattle.dbn_top.proofs.dump.run_dump.Goals as goal

pub returns-in-Ok-clause-ends : goal.returns-in-Ok-clause-ends
returns-in-Ok-clause-ends g c = λ net same commands same_too given told.
    let begun = c.in-Ok.ensures.runs given.a given.b (told.a_told refl) (told.b_told refl) in
    let out = stream (g.K.Sink.taken c.args.out.now) (g.K.Sink.taken c.write_text-status.new.out) (g.K.Sink.faults c.args.out.now) (g.K.Sink.faults c.write_text-status.new.out) in
    dump_ends c.write_text-status.result c.args.limits.now net commands out given
    (subst (λ (f : Found). Writes c.write_text-status.result (with_store f (λ (r : RunState). due status.Done (text_at r.now))) out) (sym begun) c.write_text-status.ensures.writes)
    (said_never _ c.write_text-status.ensures.which).0 c.write_text-status.ensures.write same same_too

pub returns-in-Ok-clause-spares : goal.returns-in-Ok-clause-spares
returns-in-Ok-clause-spares g c = λ net same commands same_too given told. record {
  order = record { a_idle = λ none. absurd (true≢false none); b_idle = λ none. absurd (true≢false none); fault = λ e. absurd ((said_never _ c.write_text-status.ensures.which).1 e) };
  stays = λ none. stays_from _ _ (g.D.Disk.state c.args.a) (g.D.Disk.state c.args.b) (g.D.Disk.state c.disks_of-a.result.0) (g.D.Disk.state c.disks_of-a.result.1) c.in-Ok.ensures.over c.disks_of-a.ensures.over (same_self _) c.in-Ok.ensures.only c.disks_of-a.ensures.all (files_self _);
  bytes = λ all. absurd (true≢false (sym (c.in-Ok.ensures.store given.a given.b (told.a_told refl) (told.b_told refl)) ∙ not_store _ all));
}

pub returns-in-Ok-clause-touches : goal.returns-in-Ok-clause-touches
returns-in-Ok-clause-touches g c = λ net same commands same_too.
    dump_touches c.write_text-status.result c.args.limits.now net commands _ (said_never _ c.write_text-status.ensures.which).0 c.write_text-status.ensures.write same same_too

pub returns-in-Ok-clause-keeps : goal.returns-in-Ok-clause-keeps
returns-in-Ok-clause-keeps g c = λ net same commands same_too.
    dump_keeps c.write_text-status.result c.args.limits.now net commands _ c.write_text-status.ensures.calm c.write_text-status.ensures.told c.write_text-status.ensures.later same same_too

pub returns-in-Ok-clause-disks : goal.returns-in-Ok-clause-disks
returns-in-Ok-clause-disks g c = dump_disks c.write_text-status.result _ _ (said_never _ c.write_text-status.ensures.which).1

pub returns-in-Ok-clause-keeps_disks : goal.returns-in-Ok-clause-keeps_disks
returns-in-Ok-clause-keeps_disks g c =
    keeps_from _ _ (g.D.Disk.state c.args.a) (g.D.Disk.state c.args.b) (g.D.Disk.state c.disks_of-a.result.0) (g.D.Disk.state c.disks_of-a.result.1) c.in-Ok.ensures.over c.disks_of-a.ensures.over (same_self _)
    c.write_text-status.result (λ i. omega arith) (λ never. refl)

pub returns-in-Err-clause-ends : goal.returns-in-Err-clause-ends
returns-in-Err-clause-ends g c = λ net same commands same_too given told.
    let why = c.in-Err.ensures.why given.a given.b (told.a_told refl) (told.b_told refl) in
    dump_ends c.refuse_store-status.result c.args.limits.now net commands _ given (c.refuse_store-status.ensures.writes _ (λ (r : RunState). due status.Done (text_at r.now)) why) c.refuse_store-status.ensures.never.1 c.refuse_store-status.ensures.write same same_too

pub returns-in-Err-clause-spares : goal.returns-in-Err-clause-spares
returns-in-Err-clause-spares g c = λ net same commands same_too given told. record {
  order = record { a_idle = λ none. absurd (true≢false none); b_idle = λ none. absurd (true≢false none); fault = λ e. (refl, c.in-Err.ensures.failed (c.refuse_store-status.ensures.disk e)) };
  stays = λ none. c.in-Err.ensures.stays;
  bytes = λ all. c.in-Err.ensures.bytes given.a given.b (told.a_told refl) (told.b_told refl) (not_store _ all);
}
