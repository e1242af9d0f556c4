use Rattle.std.proofs.Common.{take}
use Rattle.dbn_reader.specs.Used.{HasVars}
use Rattle.dbn_reader.proofs.binding.set_of.Given as goal

abbrev pub invariant-loop-var : goal.invariant-loop-var
invariant-loop-var l = HasVars (λ k. k.now) l.set.keys (take l.var-index l.vars)
