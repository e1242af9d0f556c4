use Rattle.std.proofs.Common.{◌≡◌, map, take}
use Rattle.dbn_value.specs.Ascending.{ascending}
use Rattle.dbn_value.specs.Order.{row_cmp}
use Rattle.dbn_formula.specs.Holds.{lookup}
use Rattle.dbn_scratch.specs.Envs.{env_of}
use Rattle.dbn_scratch.proofs.answering.add_plain.Given as goal

abbrev pub invariant-loop-env : goal.invariant-loop-env
invariant-loop-env l = l.set.keys ≡ ascending row_cmp (map (λ e. map (λ x. lookup (env_of e.items) x.0) l.vars) (take l.env-index l.envs))
