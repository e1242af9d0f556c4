use Rattle.std.proofs.Common.{◌≡◌, drop, length}
use Rattle.dbn_value.specs.Order.{value_cmp}
use Rattle.dbn_instance.specs.Facts.{after_changes}
use Rattle.dbn_slow.proofs.actions.changed.Given as goal

abbrev pub invariant-loop-change : goal.invariant-loop-change
invariant-loop-change l = (length l.after ≡ length l.instance) × (after_changes value_cmp (drop l.change-index l.changes) l.after ≡ after_changes value_cmp l.changes l.instance)
