use Rattle.std.proofs.Common.{◌≡◌, drop}
use Rattle.std.specs.List.{list_any}
use Rattle.dbn_formula.specs.Solve.{choosable}
use Rattle.dbn_scratch.specs.Envs.{env_of}
use Rattle.dbn_scratch.specs.Prepared.{domain_of}
use Rattle.dbn_scratch.proofs.solving.is_choosable_in.Given as goal

abbrev pub invariant-loop-env : goal.invariant-loop-env
invariant-loop-env l =
    list_any (λ e. choosable (domain_of l.tables) l.vars (env_of e.items)) l.envs ≡ list_any (λ e. choosable (domain_of l.tables) l.vars (env_of e.items)) (drop l.env-index l.envs)
