use Rattle.std.proofs.Common.{◌≡◌, ◌+◌, ◌*◌, ◌++◌, not, length, map, take, drop, sum_by}
use Rattle.std.specs.List.{flat_map, list_any}
use Rattle.dbn_formula.specs.Weight.{weight}
use Rattle.dbn_formula.specs.Solve.{is_empty, all_run, solutions_over}
use Rattle.dbn_scratch.specs.Envs.{env_of, envs_of}
use Rattle.dbn_scratch.specs.Prepared.{domain_of}
use Rattle.dbn_scratch.proofs.solving.+solutions.Given as goal

abbrev pub decreases-add_solutions : goal.decreases-add_solutions
decreases-add_solutions l = 2 * weight l.f.now

abbrev pub decreases-add_all : goal.decreases-add_all
decreases-add_all l = 2 * (sum_by weight l.parts.now + length l.parts.now) + 2

abbrev pub decreases-add_any : goal.decreases-add_any
decreases-add_any l = 2 * (sum_by weight l.parts.now) + 1

abbrev pub decreases-add_each : goal.decreases-add_each
decreases-add_each l = 2 * weight l.part.now + 1

abbrev pub decreases-add_exists : goal.decreases-add_exists
decreases-add_exists l = 2 * weight l.body.now + 1

abbrev pub decreases-has_solution : goal.decreases-has_solution
decreases-has_solution l = 2 * weight l.f.now

abbrev pub decreases-has_all : goal.decreases-has_all
decreases-has_all l = 2 * (sum_by weight l.parts.now + length l.parts.now) + 3

abbrev pub decreases-has_each : goal.decreases-has_each
decreases-has_each l = 2 * weight l.part.now + 1

abbrev pub decreases-has_any : goal.decreases-has_any
decreases-has_any l = 2 * (sum_by weight l.parts.now) + 1

abbrev pub decreases-has_exists : goal.decreases-has_exists
decreases-has_exists l = 2 * weight l.body.now + 1

abbrev pub invariant-add_each-loop-env : goal.invariant-add_each-loop-env
invariant-add_each-loop-env l = record {
  solutions :
      envs_of l.out ≡ envs_of l.fn.out ++ flat_map (λ e. solutions_over (domain_of l.tables) l.tables.instance.now l.part (env_of e.items)) (take l.env-index l.envs);
  same : l.indexes ≡ l.fn.indexes;
}

abbrev pub invariant-add_all-loop-part : goal.invariant-add_all-loop-part
invariant-add_all-loop-part l = record {
  solutions :
      flat_map (all_run (map (solutions_over (domain_of l.tables) l.tables.instance.now) (drop l.part-index l.parts))) (envs_of l.from)
      ≡ all_run (map (solutions_over (domain_of l.tables) l.tables.instance.now) l.parts) (env_of l.env);
  same : l.indexes ≡ l.fn.indexes;
}

abbrev pub invariant-add_any-loop-part : goal.invariant-add_any-loop-part
invariant-add_any-loop-part l = record {
  solutions :
      envs_of l.out ≡ envs_of l.fn.out ++ flat_map (λ f. solutions_over (domain_of l.tables) l.tables.instance.now f (env_of l.env)) (take l.part-index l.parts);
  same : l.indexes ≡ l.fn.indexes;
}

abbrev pub invariant-has_each-loop-env : goal.invariant-has_each-loop-env
invariant-has_each-loop-env l = record {
  some :
      list_any (λ e. not (is_empty (solutions_over (domain_of l.tables) l.tables.instance.now l.part (env_of e.items)))) l.envs
      ≡ list_any (λ e. not (is_empty (solutions_over (domain_of l.tables) l.tables.instance.now l.part (env_of e.items)))) (drop l.env-index l.envs);
  same : l.indexes ≡ l.fn.indexes;
}

abbrev pub invariant-has_any-loop-part : goal.invariant-has_any-loop-part
invariant-has_any-loop-part l = record {
  some :
      list_any (λ f. not (is_empty (solutions_over (domain_of l.tables) l.tables.instance.now f (env_of l.env)))) l.parts
      ≡ list_any (λ f. not (is_empty (solutions_over (domain_of l.tables) l.tables.instance.now f (env_of l.env)))) (drop l.part-index l.parts);
  same : l.indexes ≡ l.fn.indexes;
}
