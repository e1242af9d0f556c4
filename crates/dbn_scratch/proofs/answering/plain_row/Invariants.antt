use Rattle.std.proofs.Common.{◌≡◌, map, take}
use Rattle.dbn_formula.specs.Holds.{lookup}
use Rattle.dbn_scratch.specs.Envs.{env_of}
use Rattle.dbn_scratch.proofs.answering.plain_row.Given as goal

abbrev pub invariant-loop-var : goal.invariant-loop-var
invariant-loop-var l = l.values.items ≡ map (λ x. lookup (env_of l.env) x.0) (take l.var-index l.vars)
