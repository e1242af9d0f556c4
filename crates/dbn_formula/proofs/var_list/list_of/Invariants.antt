use Rattle.std.proofs.Common.{◌≡◌, take}
use Rattle.dbn_formula.proofs.var_list.list_of.Given as goal

abbrev pub invariant-loop-var : goal.invariant-loop-var
invariant-loop-var l = l.list ≡ take l.var-index l.vars
