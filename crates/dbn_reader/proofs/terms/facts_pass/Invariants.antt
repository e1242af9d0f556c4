use Rattle.std.proofs.Common.{◌≡◌, drop}
use Rattle.dbn_net.specs.Judging.{all_facts}
use Rattle.dbn_reader.specs.Terms.{tested}
use Rattle.dbn_reader.proofs.terms.facts_pass.Given as goal

abbrev pub invariant-loop-fact : goal.invariant-loop-fact
invariant-loop-fact l = all_facts (tested l.test l.scope) l.rels l.facts ≡ all_facts (tested l.test l.scope) l.rels (drop l.fact-index l.facts)
