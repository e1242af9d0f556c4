use Rattle.std.proofs.Common.{◌≡◌, drop}
use Rattle.dbn_disk.specs.Images.{settled, after_calls}
use Rattle.dbn_disk.specs.Replays.{moment_of}
use Rattle.dbn_disk.proofs.past.rebuild.Given as goal

abbrev pub invariant-loop-call : goal.invariant-loop-call
invariant-loop-call l = after_calls (settled l.first) l.calls ≡ after_calls (moment_of l.replay) (drop l.call-index l.calls)
