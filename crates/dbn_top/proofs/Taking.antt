-- How much of a net was taken.
use Rattle.std.proofs.Common.{ℕ, ◌+◌, ◌≤◌, List, length, arith}
use Rattle.std.specs.Io.KnownBytes.{Consumes}
use Rattle.dbn_io.specs.Stops.{MayTake, Stopped}
use Rattle.dbn_io.specs.declared.take.ReadStop.{ReadStop}
use Rattle.dbn_io.specs.declared.take.ReadStop.TheVariants as stop
use Rattle.dbn_top.specs.Calls.{Stream}
use Rattle.dbn_top.specs.Endings.{TakesFew}

few_stopped : (why : ReadStop) (most count : ℕ) → MayTake why most count → count ≤ most + 1
few_stopped stop.Failed most count e = omega arith
few_stopped stop.Over most count e = omega arith
few_stopped stop.Memory most count e = omega arith

pub stopped_few : (why : ReadStop) (most : ℕ) (source : Stream) → Stopped why most source.bytes source.bytes_after → TakesFew most source
stopped_few why most source stopped = record { taken = stopped.0; consumed = stopped.1; few = few_stopped why most (length stopped.0) stopped.2 }

pub whole_few : (most : ℕ) (source : Stream) (bytes : List ℕ) → Consumes source.bytes source.bytes_after bytes → length bytes ≤ most → TakesFew most source
whole_few most source bytes consumed few = record { taken = bytes; consumed = consumed; few = omega arith }
