use Rattle.std.proofs.Common.{map}
use Rattle.dbn_net.specs.declared.written.Written.TheVariants.{Fact}
use Rattle.dbn_net.specs.Printing.{sexp_of}
use Rattle.dbn_writer.proofs.WritingLaws.{Leads}
use Rattle.dbn_writer.proofs.writing.add_rows.Given as goal

abbrev pub invariant-loop-row : goal.invariant-loop-row
invariant-loop-row l = Leads l.fn.out.items l.out.items (map (λ row. sexp_of (Fact l.rel row)) l.row-iterator) (map (λ row. sexp_of (Fact l.rel row)) l.rows.keys)
