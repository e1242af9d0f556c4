use Rattle.std.proofs.Common.{◌≡◌, map, take}
use Rattle.dbn_scratch.specs.Envs.{env_of}
use Rattle.dbn_scratch.specs.Given.{column_of, kept_of, rows_of}
use Rattle.dbn_scratch.proofs.answering.columns_of.Given as goal

abbrev pub invariant-loop-var : goal.invariant-loop-var
invariant-loop-var l = rows_of l.columns.items ≡ map (column_of (kept_of l.domains) (env_of l.env)) (take l.var-index l.vars)
