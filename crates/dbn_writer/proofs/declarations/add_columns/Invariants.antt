use Rattle.std.proofs.Common.{◌≡◌, ◌++◌, map, take}
use Rattle.dbn_net.specs.Printing.{typed_sexp}
use Rattle.dbn_writer.proofs.declarations.add_columns.Given as goal

abbrev pub invariant-loop-field : goal.invariant-loop-field
invariant-loop-field l = l.out ≡ l.fn.out ++ map typed_sexp (take l.field-index l.fields)
