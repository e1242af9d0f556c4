use Rattle.std.proofs.Common.{◌≡◌, ◌++◌, take}
use Rattle.dbn_value.specs.declared.value.ColType.TheVariants as col
use Rattle.dbn_net.specs.Tables.{with_type}
use Rattle.dbn_slow.proofs.firing.push_ids.Given as goal

abbrev pub invariant-loop-var : goal.invariant-loop-var
invariant-loop-var l = l.scope ≡ l.fn.scope ++ with_type col.Id (take l.var-index l.fresh)
