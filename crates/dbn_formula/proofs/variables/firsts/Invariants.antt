use Rattle.std.proofs.Common.{◌≡◌, map, take}
use Rattle.dbn_formula.specs.Variables.{firsts}
use Rattle.dbn_formula.proofs.variables.firsts.Given as goal

abbrev pub invariant-loop-var : goal.invariant-loop-var
invariant-loop-var l = l.once ≡ firsts (map (λ x. x.now) (take l.var-index l.vars))
