use Rattle.std.proofs.Common.{◌≡◌, IsTrue, IsFalse}
use Rattle.dbn_model.specs.Content.{SameTold}
use Rattle.dbn_io.specs.Window.{allowed}
use Rattle.dbn_keeper.specs.Keeping.{Keeps}
use Rattle.dbn_engine.proofs.AllLines.{SoFar}
use Rattle.dbn_engine.proofs.all_lines.serve_lines.Given as goal

abbrev pub invariant-lines : goal.invariant-lines
invariant-lines g l =
    let old = g.E.Serve.state l.initial.engine in
    let now = g.E.Serve.state l.engine in
    record {
      so_far : SoFar l.most (g.C.Source.left l.initial.commands) (g.C.Source.left l.commands) l.lines old now (g.K.Sink.taken l.initial.out) (g.K.Sink.taken l.out);
      live : IsTrue now.live;
      going : IsFalse l.lines.ended;
      keeps : Keeps old.keeper now.keeper;
      told : SameTold (g.C.Source.left l.initial.commands) (g.C.Source.left l.commands);
      told_out : SameTold (g.K.Sink.taken l.initial.out) (g.K.Sink.taken l.out);
      source_count : g.C.Source.faults l.commands ≡ g.C.Source.faults l.initial.commands;
      sink_count : g.K.Sink.faults l.out ≡ g.K.Sink.faults l.initial.out;
      disk_counts : now.keeper.faults ≡ old.keeper.faults;
    }

abbrev pub decreases-lines : goal.decreases-lines
decreases-lines g l = allowed l.lines.window
