use Rattle.std.proofs.Common.{◌≡◌, drop}
use Rattle.dbn_value.specs.Scope.{entry_of}
use Rattle.dbn_scratch.specs.Envs.{env_of}
use Rattle.dbn_scratch.proofs.bindings.known.Given as goal

abbrev pub invariant-loop-entry : goal.invariant-loop-entry
invariant-loop-entry l = entry_of (env_of l.env) l.var ≡ entry_of (env_of (drop l.entry-index l.env)) l.var
