-- The moment that a replay of the calls has come to.
use Rattle.dbn_disk.specs.Images.{Moment}
use Rattle.dbn_disk.specs.declared.past.Replay.{Replay}

abbrev pub moment_of : Replay → Moment
moment_of r = record { held = r.held.items; stable = r.stable.items; least = r.least; most = r.most; covered = r.covered.items }
