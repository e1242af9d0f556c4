use Rattle.std.proofs.Common.{◌≡◌, ◌≤◌, map}
use Rattle.std.specs.List.{range_with_len}
use Rattle.dbn_disk.specs.Picked.{image_byte, free_before}
use Rattle.dbn_disk.specs.Replays.{moment_of}
use Rattle.dbn_disk.proofs.past.Replay.image.Given as goal

abbrev pub invariant-loop-place : goal.invariant-loop-place
invariant-loop-place l = record {
  so_far : l.bytes.items ≡ map (image_byte (moment_of l.self) l.loose) (range_with_len 0 l.place);
  frees : l.free ≡ free_before (moment_of l.self) l.place;
  few : l.free ≤ l.place;
}
