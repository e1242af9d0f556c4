use Rattle.std.proofs.Common.{[], ◌++◌, ◌∷◌, rules, inl, refl, arith}
use Rattle.std.proofs.KnownBytes.{Consumes-nil}
use Rattle.dbn_model.specs.Lines.{due_lines}
use Rattle.dbn_io.proofs.RunLaws.{taken-so-far}
use Rattle.dbn_engine.specs.Serving.{line_of}
use Rattle.dbn_engine.specs.declared.fault.ServeFault.TheVariants as fault
use Rattle.dbn_engine.specs.declared.run_end.RunEnd.TheVariants.{Done, ReadFault, InputLimit, Memory}
use Rattle.dbn_engine.proofs.Told.{keeps_on}
use Rattle.dbn_engine.proofs.AllLines.{none_answered, one_more, given_line, serves_all, serves_between, serves_stopped, ends_within, ends_over}
use Rattle.dbn_engine.proofs.all_lines.serve_lines.Goals as goal

pub returns-in_default-clause-serves : goal.returns-in_default-clause-serves
returns-in_default-clause-serves g c = λ all told.
    let e = g.E.Serve.state c.args.engine.now in
    serves_between Memory c.args.most all e e (g.C.Source.left c.args.commands.now) (g.C.Source.left c.args.commands.now) (g.K.Sink.taken c.args.out.now) (g.K.Sink.taken c.args.out.now) [] (due_lines c.args.most all)
    (none_answered e (g.K.Sink.taken c.args.out.now)) refl (λ e. cc) (λ e. cc) (λ e. cc) (λ j. inl refl) (g.met.E.Serve.at_rest c.args.engine.now c.requires) (record { told = refl; honest = refl; cap = refl; last = refl })

pub returns-in_default-clause-takes : goal.returns-in_default-clause-takes
returns-in_default-clause-takes g c = ([], Consumes-nil (g.C.Source.left c.args.commands.now), omega arith)

pub returns-in-Ok-End-clause-serves : goal.returns-in-Ok-End-clause-serves
returns-in-Ok-End-clause-serves g c = λ all told.
    let so = c.lines.invariant.so_far in
    let read = rw c.in-Ok-End.field-0-is at (c.in-Ok-End.ensures.line c.args.most (g.C.Source.left c.args.commands.now) so.lines so.read) in
    let known = read.due all told in
    serves_all Done c.args.most all (g.E.Serve.state c.args.engine.now) (g.E.Serve.state c.lines.engine) _ _ (g.K.Sink.taken c.args.out.now) (g.K.Sink.taken c.lines.out) so.lines so.answered
    known.0 (ends_within c.args.most all known.1) (λ e. cc) (λ e. cc) (λ j. refl) (g.met.E.Serve.at_rest c.lines.engine c.lines.invariant.live) c.lines.invariant.keeps

pub returns-in-Ok-End-clause-takes : goal.returns-in-Ok-End-clause-takes
returns-in-Ok-End-clause-takes g c =
    let so = c.lines.invariant.so_far in
    let read = rw c.in-Ok-End.field-0-is at (c.in-Ok-End.ensures.line c.args.most (g.C.Source.left c.args.commands.now) so.lines so.read) in
    (read.bytes, read.taken, read.count)

pub returns-in-Ok-End-clause-end : goal.returns-in-Ok-End-clause-end
returns-in-Ok-End-clause-end g c = λ e.
    let so = c.lines.invariant.so_far in
    let read = rw c.in-Ok-End.field-0-is at (c.in-Ok-End.ensures.line c.args.most (g.C.Source.left c.args.commands.now) so.lines so.read) in
    read.end

pub returns-in-Err-Over-clause-serves : goal.returns-in-Err-Over-clause-serves
returns-in-Err-Over-clause-serves g c = λ all told.
    let so = c.lines.invariant.so_far in
    let lost = rw c.in-Err-Over.field-0-is at (c.in-Err-Over.ensures.stopped c.args.most (g.C.Source.left c.args.commands.now) so.lines so.read) in
    let known = lost.up_to.1 all told in
    serves_all InputLimit c.args.most all (g.E.Serve.state c.args.engine.now) (g.E.Serve.state c.lines.engine) _ _ (g.K.Sink.taken c.args.out.now) (g.K.Sink.taken c.lines.out) so.lines so.answered
    known.0 (ends_over c.args.most all known.1) (λ e. cc) (λ e. cc) (λ j. refl) (g.met.E.Serve.at_rest c.lines.engine c.lines.invariant.live) c.lines.invariant.keeps

pub returns-in-Err-Over-clause-takes : goal.returns-in-Err-Over-clause-takes
returns-in-Err-Over-clause-takes g c =
    let so = c.lines.invariant.so_far in
    let lost = rw c.in-Err-Over.field-0-is at (c.in-Err-Over.ensures.stopped c.args.most (g.C.Source.left c.args.commands.now) so.lines so.read) in
    (lost.bytes, lost.taken, lost.count)

pub returns-in-Err-Failed-clause-serves : goal.returns-in-Err-Failed-clause-serves
returns-in-Err-Failed-clause-serves g c = λ all told.
    let so = c.lines.invariant.so_far in
    let lost = rw c.in-Err-Failed.field-0-is at (c.in-Err-Failed.ensures.stopped c.args.most (g.C.Source.left c.args.commands.now) so.lines so.read) in
    let more = lost.first all told in
    serves_between ReadFault c.args.most all (g.E.Serve.state c.args.engine.now) (g.E.Serve.state c.lines.engine) _ _ (g.K.Sink.taken c.args.out.now) (g.K.Sink.taken c.lines.out) so.lines more.0 so.answered
    more.1 (λ e. cc) (λ e. (lost.bytes, lost.taken, lost.up_to)) (λ e. cc) (λ j. refl) (g.met.E.Serve.at_rest c.lines.engine c.lines.invariant.live) c.lines.invariant.keeps

pub returns-in-Err-Failed-clause-takes : goal.returns-in-Err-Failed-clause-takes
returns-in-Err-Failed-clause-takes g c =
    let so = c.lines.invariant.so_far in
    let lost = rw c.in-Err-Failed.field-0-is at (c.in-Err-Failed.ensures.stopped c.args.most (g.C.Source.left c.args.commands.now) so.lines so.read) in
    (lost.bytes, lost.taken, lost.count)

pub returns-in-Err-Memory-clause-serves : goal.returns-in-Err-Memory-clause-serves
returns-in-Err-Memory-clause-serves g c = λ all told.
    let so = c.lines.invariant.so_far in
    let more = so.read.first all told in
    serves_between Memory c.args.most all (g.E.Serve.state c.args.engine.now) (g.E.Serve.state c.lines.engine) _ _ (g.K.Sink.taken c.args.out.now) (g.K.Sink.taken c.lines.out) so.lines more.0 so.answered
    more.1 (λ e. cc) (λ e. cc) (λ e. cc) (λ j. inl refl) (g.met.E.Serve.at_rest c.lines.engine c.lines.invariant.live) c.lines.invariant.keeps

pub returns-in-Err-Memory-clause-takes : goal.returns-in-Err-Memory-clause-takes
returns-in-Err-Memory-clause-takes g c =
    let so = c.lines.invariant.so_far in
    let lost = rw c.in-Err-Memory.field-0-is at (c.in-Err-Memory.ensures.stopped c.args.most (g.C.Source.left c.args.commands.now) so.lines so.read) in
    (lost.bytes, lost.taken, lost.count)

pub returns-in-Err-Write : goal.returns-in-Err-Write
returns-in-Err-Write g c =
    let so = c.lines.invariant.so_far in
    let read = given_line c.in-Ok-next.line c.args.most (g.C.Source.left c.args.commands.now) _ _ so.lines (search rules) (c.in-Ok-next.ensures.line c.args.most (g.C.Source.left c.args.commands.now) so.lines so.read) in
    record {
      serves = λ all told.
          let more = read.first all told in
          serves_stopped fault.Write c.args.most all (g.E.Serve.state c.args.engine.now) (g.E.Serve.state c.lines.engine) (g.E.Serve.state c.serve_one.new.self) _ _ (g.K.Sink.taken c.args.out.now) (g.K.Sink.taken c.lines.out) (g.K.Sink.taken c.serve_one.new.out)
          so.lines more.0 (line_of c.in-Ok-next.line) so.answered more.1 (g.met.E.Serve.at_rest c.lines.engine c.lines.invariant.live) c.lines.invariant.keeps (rw c.in-Err-Write.field-0-is at c.in-Err-Write.ensures.stops);
      takes = taken-so-far c.args.most (g.C.Source.left c.args.commands.now) _ _ _ read;
      end = search rules;
      live = search rules;
      terms = search rules;
      keeps = search rules;
      told = search rules;
      source_count = search rules;
      sink_count = search rules;
      disk_counts = search rules;
    }

pub returns-in-Err-Disk : goal.returns-in-Err-Disk
returns-in-Err-Disk g c =
    let so = c.lines.invariant.so_far in
    let read = given_line c.in-Ok-next.line c.args.most (g.C.Source.left c.args.commands.now) _ _ so.lines (search rules) (c.in-Ok-next.ensures.line c.args.most (g.C.Source.left c.args.commands.now) so.lines so.read) in
    record {
      serves = λ all told.
          let more = read.first all told in
          serves_stopped fault.Disk c.args.most all (g.E.Serve.state c.args.engine.now) (g.E.Serve.state c.lines.engine) (g.E.Serve.state c.serve_one.new.self) _ _ (g.K.Sink.taken c.args.out.now) (g.K.Sink.taken c.lines.out) (g.K.Sink.taken c.serve_one.new.out)
          so.lines more.0 (line_of c.in-Ok-next.line) so.answered more.1 (g.met.E.Serve.at_rest c.lines.engine c.lines.invariant.live) c.lines.invariant.keeps (rw c.in-Err-Disk.field-0-is at c.in-Err-Disk.ensures.stops);
      takes = taken-so-far c.args.most (g.C.Source.left c.args.commands.now) _ _ _ read;
      end = search rules;
      live = search rules;
      terms = search rules;
      keeps = search rules;
      told = search rules;
      source_count = search rules;
      sink_count = search rules;
      disk_counts = search rules;
    }

pub returns-in-Err-Memory-serve_one : goal.returns-in-Err-Memory-serve_one
returns-in-Err-Memory-serve_one g c =
    let so = c.lines.invariant.so_far in
    let read = given_line c.in-Ok-next.line c.args.most (g.C.Source.left c.args.commands.now) _ _ so.lines (search rules) (c.in-Ok-next.ensures.line c.args.most (g.C.Source.left c.args.commands.now) so.lines so.read) in
    record {
      serves = λ all told.
          let more = read.first all told in
          serves_stopped fault.Memory c.args.most all (g.E.Serve.state c.args.engine.now) (g.E.Serve.state c.lines.engine) (g.E.Serve.state c.serve_one.new.self) _ _ (g.K.Sink.taken c.args.out.now) (g.K.Sink.taken c.lines.out) (g.K.Sink.taken c.serve_one.new.out)
          so.lines more.0 (line_of c.in-Ok-next.line) so.answered more.1 (g.met.E.Serve.at_rest c.lines.engine c.lines.invariant.live) c.lines.invariant.keeps (rw c.in-Err-Memory-serve_one.field-0-is at c.in-Err-Memory-serve_one.ensures.stops);
      takes = taken-so-far c.args.most (g.C.Source.left c.args.commands.now) _ _ _ read;
      end = search rules;
      live = search rules;
      terms = search rules;
      keeps = search rules;
      told = search rules;
      source_count = search rules;
      sink_count = search rules;
      disk_counts = search rules;
    }

pub lines-preserved : goal.lines-preserved
lines-preserved g c =
    let so = c.lines.invariant.so_far in
    let read = given_line c.in-Ok-next.line c.args.most (g.C.Source.left c.args.commands.now) _ _ so.lines (search rules) (c.in-Ok-next.ensures.line c.args.most (g.C.Source.left c.args.commands.now) so.lines so.read) in
    record {
      so_far = record {
        lines = so.lines ++ line_of c.in-Ok-next.line ∷ [];
        read = read;
        answered = one_more (g.E.Serve.state c.args.engine.now) (g.E.Serve.state c.lines.engine) (g.E.Serve.state c.serve_one.new.self) (g.K.Sink.taken c.args.out.now) (g.K.Sink.taken c.lines.out) (g.K.Sink.taken c.serve_one.new.out)
            so.lines (line_of c.in-Ok-next.line) so.answered c.in-Ok-serve_one.ensures.text c.in-Ok-serve_one.ensures.next c.serve_one.ensures.terms;
      };
      live = search rules;
      going = search rules;
      keeps = keeps_on (g.E.Serve.state c.args.engine.now).keeper (g.E.Serve.state c.lines.engine).keeper (g.E.Serve.state c.serve_one.new.self).keeper c.lines.invariant.keeps c.serve_one.ensures.keeps;
      told = search rules;
      told_out = search rules;
      source_count = search rules;
      sink_count = search rules;
      disk_counts = search rules;
    }

pub lines-preserved-in-Ok-serve_one : goal.lines-preserved-in-Ok-serve_one
lines-preserved-in-Ok-serve_one g c =
    let so = c.lines.invariant.so_far in
    let read = given_line c.in-Ok-next.line c.args.most (g.C.Source.left c.args.commands.now) _ _ so.lines (search rules) (c.in-Ok-next.ensures.line c.args.most (g.C.Source.left c.args.commands.now) so.lines so.read) in
    record {
      so_far = record {
        lines = so.lines ++ line_of c.in-Ok-next.line ∷ [];
        read = read;
        answered = one_more (g.E.Serve.state c.args.engine.now) (g.E.Serve.state c.lines.engine) (g.E.Serve.state c.serve_one.new.self) (g.K.Sink.taken c.args.out.now) (g.K.Sink.taken c.lines.out) (g.K.Sink.taken c.serve_one.new.out)
            so.lines (line_of c.in-Ok-next.line) so.answered c.in-Ok-serve_one.ensures.text c.in-Ok-serve_one.ensures.next c.serve_one.ensures.terms;
      };
      live = search rules;
      going = search rules;
      keeps = keeps_on (g.E.Serve.state c.args.engine.now).keeper (g.E.Serve.state c.lines.engine).keeper (g.E.Serve.state c.serve_one.new.self).keeper c.lines.invariant.keeps c.serve_one.ensures.keeps;
      told = search rules;
      told_out = search rules;
      source_count = search rules;
      sink_count = search rules;
      disk_counts = search rules;
    }

pub lines-init : goal.lines-init
lines-init g c =
    let e = g.E.Serve.state c.args.engine.now in
    record {
      so_far = record { lines = []; read = c.in-Ok.ensures.read (g.C.Source.left c.args.commands.now); answered = none_answered e (g.K.Sink.taken c.args.out.now) };
      live = c.requires;
      going = c.in-Ok.ensures.ended;
      keeps = record { told = refl; honest = refl; cap = refl; last = refl };
      told = refl;
      told_out = refl;
      source_count = refl;
      sink_count = refl;
      disk_counts = refl;
    }
