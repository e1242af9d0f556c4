use Rattle.std.proofs.Common.{◌≡◌, drop}
use Rattle.dbn_formula.specs.Solve.{matched}
use Rattle.dbn_scratch.specs.Envs.{env_of}
use Rattle.dbn_scratch.proofs.bindings.match_row.Given as goal

abbrev pub invariant-loop-i : goal.invariant-loop-i
invariant-loop-i l = matched l.terms l.row (env_of l.env) ≡ matched (drop l.i l.terms) (drop l.i l.row) (env_of l.made.items)
