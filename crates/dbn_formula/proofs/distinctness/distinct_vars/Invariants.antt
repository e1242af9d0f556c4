use Rattle.std.proofs.Common.{◌≡◌, ◌&&◌, drop}
use Rattle.dbn_formula.specs.Distinct.{distinct_vars}
use Rattle.dbn_formula.proofs.SeenLaws.{unseen}
use Rattle.dbn_formula.proofs.distinctness.distinct_vars.Given as goal

abbrev pub invariant-loop-var : goal.invariant-loop-var
invariant-loop-var l = distinct_vars l.vars ≡ (distinct_vars (drop l.var-index l.vars) && unseen (λ x. x.now) l.seen.keys (drop l.var-index l.vars))
