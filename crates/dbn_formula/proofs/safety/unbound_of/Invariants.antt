use Rattle.std.proofs.Common.{◌≡◌, ◌++◌, List, map, take}
use Rattle.dbn_value.specs.declared.term.Var.{Var}
use Rattle.dbn_formula.specs.Safe.{all_in}
use Rattle.dbn_formula.proofs.safety.unbound_of.Given as goal

abbrev pub invariant-loop-var : goal.invariant-loop-var
invariant-loop-var l = (more : List Var) → all_in l.needed (l.bound ++ more) ≡ all_in (map (λ x. x.now) (take l.var-index l.vars)) (l.bound ++ more)
