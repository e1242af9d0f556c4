use Rattle.std.proofs.Common.{◌≡◌, ◌++◌, take}
use Rattle.std.specs.List.{flat_map}
use Rattle.dbn_formula.specs.Solve.{matched}
use Rattle.dbn_scratch.specs.Envs.{env_of, envs_of}
use Rattle.dbn_scratch.proofs.atoms.add_matches.Given as goal

abbrev pub invariant-loop-row : goal.invariant-loop-row
invariant-loop-row l = envs_of l.out ≡ envs_of l.fn.out ++ flat_map (λ r. matched l.terms r.now (env_of l.env)) (take l.row-index l.rows)
