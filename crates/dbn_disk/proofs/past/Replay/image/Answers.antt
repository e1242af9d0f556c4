use Rattle.std.proofs.Common.{List, ℕ, cond, get_or, ap, ◌∙◌, arith}
use Rattle.dbn_disk.specs.Replays.{moment_of}
use Rattle.dbn_disk.proofs.PickedLaws.{image_step, free_step, at_most_one}
use Rattle.dbn_disk.proofs.past.Replay.image.Goals as goal

pub loop-place-preserved : goal.loop-place-preserved
loop-place-preserved c = record {
  so_far = c.in_ok-push.ensures.items
      ∙ image_step (moment_of c.args.self.now) c.args.loose.now c.loop-place.bytes.items c.loop-place.place c.loop-place.free c.pick_byte.result c.is_fixed-fixed.result c.loop-place.invariant.so_far c.loop-place.invariant.frees c.is_fixed-fixed.ensures
      (c.pick_byte.ensures ∙ ap (λ (l : List ℕ). cond c.is_fixed-fixed.result (get_or l c.loop-place.place 0) (get_or c.args.loose.now c.loop-place.free 0)) c.as_slice.ensures.value);
  frees = free_step (moment_of c.args.self.now) c.loop-place.place c.loop-place.free c.next_free-free.result c.is_fixed-fixed.result c.loop-place.invariant.frees c.is_fixed-fixed.ensures c.next_free-free.ensures;
  few = omega (arith, c.loop-place.invariant.few, c.next_free-free.ensures, at_most_one c.is_fixed-fixed.result);
}
