use Rattle.std.proofs.Common.{◌≡◌, take}
use Rattle.std.specs.List.{flat_map}
use Rattle.dbn_value.specs.Ascending.{ascending}
use Rattle.dbn_value.specs.Order.{row_cmp}
use Rattle.dbn_scratch.specs.Envs.{env_of}
use Rattle.dbn_scratch.specs.Given.{rows_given, kept_of}
use Rattle.dbn_scratch.proofs.answering.add_products.Given as goal

abbrev pub invariant-loop-env : goal.invariant-loop-env
invariant-loop-env l = l.set.keys ≡ ascending row_cmp (flat_map (λ e. rows_given (kept_of l.domains) l.vars (env_of e.items)) (take l.env-index l.envs))
