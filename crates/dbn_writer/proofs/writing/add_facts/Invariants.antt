use Rattle.std.proofs.Common.{drop}
use Rattle.dbn_net.specs.Texts.{facts_from, printed}
use Rattle.dbn_writer.proofs.WritingLaws.{Leads}
use Rattle.dbn_writer.proofs.writing.add_facts.Given as goal

abbrev pub invariant-loop-rel : goal.invariant-loop-rel
invariant-loop-rel l = Leads l.fn.out.items l.out.items (printed l.net (facts_from l.rel (drop l.rel l.instance))) (printed l.net (facts_from 0 l.instance))
