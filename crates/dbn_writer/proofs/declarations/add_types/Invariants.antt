use Rattle.std.proofs.Common.{◌≡◌, ◌++◌, map, take}
use Rattle.dbn_net.specs.Printing.{type_sexp}
use Rattle.dbn_writer.proofs.declarations.add_types.Given as goal

abbrev pub invariant-loop-of_type : goal.invariant-loop-of_type
invariant-loop-of_type l = l.out ≡ l.fn.out ++ map type_sexp (take l.of_type-index l.shape)
