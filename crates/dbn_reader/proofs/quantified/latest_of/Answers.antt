use Rattle.dbn_reader.proofs.QuantifiedLaws.{types_step}
use Rattle.dbn_reader.proofs.quantified.latest_of.Goals as goal

pub loop-entry-preserved : goal.loop-entry-preserved
loop-entry-preserved c =
    types_step c.args.vars.now c.loop-entry.entry-index c.loop-entry.latest.entries c.insert.new.self.entries c.entry-item.result c.in_ok-key.key
    c.loop-entry-test.true c.entry-item.is c.in_ok-key.ensures c.loop-entry.invariant c.in_ok-insert.ensures.updates.0
