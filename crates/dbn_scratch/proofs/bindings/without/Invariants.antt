use Rattle.std.proofs.Common.{◌≡◌, take}
use Rattle.dbn_formula.specs.Solve.{dropped}
use Rattle.dbn_scratch.specs.Envs.{env_of}
use Rattle.dbn_scratch.proofs.bindings.without.Given as goal

abbrev pub invariant-loop-entry : goal.invariant-loop-entry
invariant-loop-entry l = env_of l.left.items ≡ dropped l.vars (env_of (take l.entry-index l.env))
