use Rattle.std.proofs.Common.{◌≡◌, ◌++◌, map, take}
use Rattle.dbn_net.specs.Printing.{variable_sexp}
use Rattle.dbn_writer.proofs.transitions.add_variables.Given as goal

abbrev pub invariant-loop-var : goal.invariant-loop-var
invariant-loop-var l = l.out ≡ l.fn.out ++ map variable_sexp (take l.var-index l.vars)
