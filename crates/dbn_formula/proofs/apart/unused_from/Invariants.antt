use Rattle.std.proofs.Common.{◌≡◌, drop}
use Rattle.dbn_formula.specs.Apart.{unused_from}
use Rattle.dbn_formula.proofs.apart.unused_from.Given as goal

abbrev pub invariant-loop-other : goal.invariant-loop-other
invariant-loop-other l = unused_from l.used l.first ≡ unused_from (drop l.other-index l.used) l.mark
