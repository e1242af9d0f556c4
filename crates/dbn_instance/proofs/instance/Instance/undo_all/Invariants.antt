use Rattle.std.proofs.Common.{◌≡◌, ◌-◌, length, drop}
use Rattle.dbn_instance.specs.Facts.{taken_back}
use Rattle.dbn_instance.proofs.instance.Instance.undo_all.Given as goal

abbrev pub invariant-loop-done : goal.invariant-loop-done
invariant-loop-done g l = record {
  back : l.self ≡ taken_back g.C.Ord.cmp (drop (length l.changes - l.done) l.changes) l.fn.self;
  long : length l.self ≡ length l.fn.self;
}
