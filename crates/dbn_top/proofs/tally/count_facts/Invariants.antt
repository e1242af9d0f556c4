use Rattle.std.proofs.Common.{◌≡◌, take}
use Rattle.dbn_top.specs.Demos.{facts_in}
use Rattle.dbn_top.proofs.tally.count_facts.Given as goal

abbrev pub invariant-loop-rel : goal.invariant-loop-rel
invariant-loop-rel l = l.count ≡ facts_in (take l.rel l.instance)
