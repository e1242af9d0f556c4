use Rattle.std.proofs.Common.{rules, ◌≡◌}
use Rattle.std.specs.BTreeSet.{insert_key}
use Rattle.dbn_instance.specs.FactOrder.{fact_cmp}
use Rattle.dbn_instance.proofs.FactLaws.{fact_more}
use Rattle.dbn_instance.proofs.effect.fact_set.Goals as goal

pub loop-fact-preserved : goal.loop-fact-preserved
loop-fact-preserved g c =
    let is : c.insert.new.self.keys ≡ insert_key (fact_cmp g.C.Ord.cmp) c.loop-fact.set.keys c.fact-item.result = search rules in
    fact_more g.met.C.Ord.total g.met.C.Cell.exact c.args.facts.now c.loop-fact.fact-index c.fact-item.result c.loop-fact.set.keys c.insert.new.self.keys
    c.loop-fact.invariant c.loop-fact-test.true c.fact-item.is is
