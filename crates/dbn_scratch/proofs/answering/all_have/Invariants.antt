use Rattle.std.proofs.Common.{◌≡◌, drop}
use Rattle.std.specs.List.{list_all}
use Rattle.dbn_formula.specs.Solve.{is_bound}
use Rattle.dbn_scratch.specs.Envs.{env_of}
use Rattle.dbn_scratch.proofs.answering.all_have.Given as goal

abbrev pub invariant-loop-env : goal.invariant-loop-env
invariant-loop-env l = list_all (λ e. list_all (λ x. is_bound (env_of e.items) x.0) l.vars) l.envs ≡ list_all (λ e. list_all (λ x. is_bound (env_of e.items) x.0) l.vars) (drop l.env-index l.envs)
