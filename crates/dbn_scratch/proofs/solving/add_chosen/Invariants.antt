use Rattle.std.proofs.Common.{◌≡◌, ◌++◌, take}
use Rattle.std.specs.List.{flat_map}
use Rattle.dbn_formula.specs.Solve.{chosen}
use Rattle.dbn_scratch.specs.Envs.{env_of, envs_of}
use Rattle.dbn_scratch.specs.Prepared.{domain_of}
use Rattle.dbn_scratch.proofs.solving.add_chosen.Given as goal

abbrev pub invariant-loop-env : goal.invariant-loop-env
invariant-loop-env l = envs_of l.out ≡ envs_of l.fn.out ++ flat_map (λ e. chosen (domain_of l.tables) l.vars (env_of e.items)) (take l.env-index l.envs)
