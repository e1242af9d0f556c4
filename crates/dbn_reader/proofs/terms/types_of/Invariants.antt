use Rattle.std.proofs.Common.{◌≡◌, take}
use Rattle.dbn_net.specs.Tables.{types_of}
use Rattle.dbn_reader.proofs.terms.types_of.Given as goal

abbrev pub invariant-loop-var : goal.invariant-loop-var
invariant-loop-var l = l.shape ≡ types_of (take l.var-index l.vars)
