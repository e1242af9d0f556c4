use Rattle.std.proofs.Common.{arith}
use Rattle.std.proofs.lemmas.Result.{on_ok_weaker}
use Rattle.dbn_plan.proofs.ScanLaws.{total_more, one_relation}
use Rattle.dbn_plan.proofs.scans.+relations.Goals as goal

pub add_all-loop-part-preserved : goal.add_all-loop-part-preserved
add_all-loop-part-preserved t c =
    let so = c.loop-part.invariant in
    let here = c.in_ok-add_relations.ensures in
    let more = total_more c.args.parts.now c.loop-part.part-index c.part-item.result c.loop-part-test.true c.part-item.is in
    omega (arith, so, here, more)

pub add_relations-returns-in-Atom : goal.add_relations-returns-in-Atom
add_relations-returns-in-Atom t c = on_ok_weaker c.push.result (one_relation c.args.out.now c.push.new.self c.in-Atom.rel c.in-Atom.terms c.args.f.now c.in-Atom.is) c.push.ensures.ok
