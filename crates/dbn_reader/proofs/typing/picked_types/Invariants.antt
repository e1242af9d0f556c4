use Rattle.std.proofs.Common.{◌≡◌, take}
use Rattle.dbn_net.specs.Judging.{picked_types}
use Rattle.dbn_reader.proofs.typing.picked_types.Given as goal

abbrev pub invariant-loop-field : goal.invariant-loop-field
invariant-loop-field l = l.types ≡ picked_types l.shape (take l.field-index l.fields)
