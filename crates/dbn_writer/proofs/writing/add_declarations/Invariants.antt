use Rattle.std.proofs.Common.{map, take}
use Rattle.dbn_net.specs.Naming.{named}
use Rattle.dbn_net.specs.Printing.{sexp_of}
use Rattle.dbn_writer.specs.Writing.{Adds}
use Rattle.dbn_writer.proofs.writing.add_declarations.Given as goal

abbrev pub invariant-loop-decl : goal.invariant-loop-decl
invariant-loop-decl l = Adds l.fn.out.items l.out.items (map (λ d. sexp_of (named l.net d)) (take l.decl-index l.decls))
