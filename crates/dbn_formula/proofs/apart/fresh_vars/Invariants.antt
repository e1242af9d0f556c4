use Rattle.std.proofs.Common.{◌≡◌, ◌++◌, drop}
use Rattle.dbn_formula.specs.Apart.{fresh, last_mark}
use Rattle.dbn_formula.proofs.apart.fresh_vars.Given as goal

abbrev pub invariant-loop-var : goal.invariant-loop-var
invariant-loop-var l =
    (l.made ++ fresh l.used (drop l.var-index l.vars) l.last ≡ fresh l.used l.vars l.fn.last)
    × (last_mark l.used (drop l.var-index l.vars) l.last ≡ last_mark l.used l.vars l.fn.last)
