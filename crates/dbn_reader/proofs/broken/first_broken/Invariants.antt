use Rattle.dbn_reader.proofs.BrokenLaws.{IsLeft}
use Rattle.dbn_reader.proofs.broken.first_broken.Given as goal

abbrev pub invariant-loop-line : goal.invariant-loop-line
invariant-loop-line l = IsLeft l.net l.facts l.lines l.line-iterator.a.rest.now l.line-iterator.b.rest.now
