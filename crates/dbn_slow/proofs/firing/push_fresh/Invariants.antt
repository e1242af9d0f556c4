use Rattle.std.proofs.Common.{◌≡◌, ◌+◌, ◌++◌, drop}
use Rattle.dbn_core.specs.Fire.{fresh_values}
use Rattle.dbn_slow.proofs.firing.push_fresh.Given as goal

abbrev pub invariant-loop-var : goal.invariant-loop-var
invariant-loop-var l = (l.number ≡ l.next + l._var-index) × (l.values.items ++ fresh_values l.number (drop l._var-index l.fresh) ≡ l.fn.values.items ++ fresh_values l.next l.fresh)
