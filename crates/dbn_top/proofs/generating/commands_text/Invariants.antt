use Rattle.std.proofs.Common.{string_bytes}
use Rattle.dbn_top.proofs.Generators.{SoFar}
use Rattle.dbn_top.proofs.generating.commands_text.Given as goal

abbrev pub invariant-loop-n : goal.invariant-loop-n
invariant-loop-n l = SoFar l.size l._n (string_bytes l.text) l.generator
