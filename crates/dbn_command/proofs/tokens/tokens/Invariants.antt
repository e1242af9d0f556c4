use Rattle.std.proofs.Common.{map}
use Rattle.dbn_command.proofs.Loops.{Walks}
use Rattle.dbn_command.proofs.tokens.tokens.Given as goal

abbrev pub invariant-loop-i : goal.invariant-loop-i
invariant-loop-i l = Walks l.line (map (λ t. t.now) l.found) l.place l.start l.i
