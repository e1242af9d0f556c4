use Rattle.std.proofs.Common.{◌≡◌, ◌++◌, take}
use Rattle.dbn_sexp.specs.Printing.{text, HasAtoms}
use Rattle.dbn_sexp.proofs.printing.print_lines.Given as goal

abbrev pub invariant-loop-one : goal.invariant-loop-one
invariant-loop-one l = (l.out.items ≡ l.fn.out.items ++ text (take l.one-index l.list)) × HasAtoms (take l.one-index l.list)
