use Rattle.std.proofs.Common.{drop}
use Rattle.dbn_net.specs.Texts.{tokens_from, printed}
use Rattle.dbn_writer.proofs.WritingLaws.{Leads}
use Rattle.dbn_writer.proofs.writing.add_tokens.Given as goal

abbrev pub invariant-loop-place : goal.invariant-loop-place
invariant-loop-place l = Leads l.fn.out.items l.out.items (printed l.net (tokens_from l.place (drop l.place l.marking))) (printed l.net (tokens_from 0 l.marking))
