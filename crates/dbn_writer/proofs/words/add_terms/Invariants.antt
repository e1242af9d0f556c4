use Rattle.std.proofs.Common.{◌≡◌, ◌++◌, map, take}
use Rattle.dbn_net.specs.Printing.{term_sexp}
use Rattle.dbn_writer.proofs.words.add_terms.Given as goal

abbrev pub invariant-loop-one : goal.invariant-loop-one
invariant-loop-one l = l.out ≡ l.fn.out ++ map term_sexp (take l.one-index l.terms)
