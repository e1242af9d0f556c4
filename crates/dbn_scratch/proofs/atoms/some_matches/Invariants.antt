use Rattle.std.proofs.Common.{◌≡◌, not, drop}
use Rattle.std.specs.List.{list_any}
use Rattle.dbn_formula.specs.Solve.{is_empty, matched}
use Rattle.dbn_scratch.specs.Envs.{env_of}
use Rattle.dbn_scratch.proofs.atoms.some_matches.Given as goal

abbrev pub invariant-loop-row : goal.invariant-loop-row
invariant-loop-row l =
    list_any (λ r. not (is_empty (matched l.terms r.now (env_of l.env)))) l.rows
    ≡ list_any (λ r. not (is_empty (matched l.terms r.now (env_of l.env)))) (drop l.row-index l.rows)
