use Rattle.std.proofs.Common.{◌≡◌, ◌++◌, take}
use Rattle.dbn_formula.specs.Apart.{quantified_marks}
use Rattle.dbn_formula.proofs.apart.add_quantified.Given as goal

abbrev pub invariant-loop-var : goal.invariant-loop-var
invariant-loop-var l = l.out.items ≡ l.fn.out.items ++ quantified_marks (take l.var-index l.vars)
