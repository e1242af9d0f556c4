use Rattle.std.proofs.Common.{◌<◌, ◌^◌, pos, map}
use Rattle.std.specs.List.{All}
use Rattle.dbn_net.specs.declared.written.Written.TheVariants.{Token}
use Rattle.dbn_net.specs.Printing.{sexp_of}
use Rattle.dbn_writer.proofs.WritingLaws.{Leads}
use Rattle.dbn_writer.proofs.writing.add_counts.Given as goal

abbrev pub invariant-loop-row : goal.invariant-loop-row
invariant-loop-row l =
    Leads l.fn.out.items l.out.items (map (λ c. sexp_of (Token l.place (pos c.1) c.0)) l.row-iterator) (map (λ c. sexp_of (Token l.place (pos c.1) c.0)) l.counts.entries)
    × All (λ c. c.1 < 2 ^ 32) l.row-iterator
