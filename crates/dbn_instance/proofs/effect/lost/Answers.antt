use Rattle.std.proofs.Common.{rules, ◌≡◌, ◌&&◌, not}
use Rattle.dbn_instance.specs.Facts.{has_fact, is_among}
use Rattle.dbn_instance.proofs.FactLaws.{gathered_more}
use Rattle.dbn_instance.proofs.effect.lost.Goals as goal

pub loop-fact-preserved : goal.loop-fact-preserved
loop-fact-preserved g c =
    let tested : c.if-has.wanted ≡ (has_fact g.C.Ord.cmp c.args.instance.now c.fact-item.result && not (is_among g.C.Ord.cmp c.args.added.now.keys c.fact-item.result)) = search rules in
    gathered_more g.met.C.Ord.total g.met.C.Cell.exact (λ f. has_fact g.C.Ord.cmp c.args.instance.now f && not (is_among g.C.Ord.cmp c.args.added.now.keys f)) c.args.deletes.now c.loop-fact.fact-index
    c.fact-item.result c.loop-fact.lost.keys c.keep.new.set.keys c.if-has.wanted
    c.loop-fact.invariant c.loop-fact-test.true c.fact-item.is tested c.in_ok-keep.ensures
