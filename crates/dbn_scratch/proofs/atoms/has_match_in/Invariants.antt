use Rattle.std.proofs.Common.{◌≡◌, not}
use Rattle.std.specs.List.{list_any}
use Rattle.dbn_formula.specs.Solve.{is_empty, matched}
use Rattle.dbn_scratch.specs.Envs.{env_of}
use Rattle.dbn_scratch.proofs.atoms.has_match_in.Given as goal

abbrev pub invariant-loop-row : goal.invariant-loop-row
invariant-loop-row l =
    list_any (λ row. not (is_empty (matched l.terms row (env_of l.env)))) l.fn.rows.keys ≡ list_any (λ row. not (is_empty (matched l.terms row (env_of l.env)))) l.row-iterator
