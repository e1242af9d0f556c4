use Rattle.std.proofs.Common.{◌≡◌, ◌++◌, map}
use Rattle.dbn_arc.specs.Sums.{want_of}
use Rattle.dbn_arc.proofs.instantiation.into_wants.Given as goal

abbrev pub invariant-loop-place : goal.invariant-loop-place
invariant-loop-place l = l.wants.items ++ map want_of l.place-iterator ≡ map want_of l.fn.sums.entries
