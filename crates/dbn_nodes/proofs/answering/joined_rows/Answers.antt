use Rattle.dbn_value.proofs.ListLaws.{in_at}
use Rattle.dbn_nodes.proofs.AnswerLaws.{join_step}
use Rattle.dbn_nodes.proofs.answering.joined_rows.Goals as goal

pub loop-row-preserved : goal.loop-row-preserved
loop-row-preserved g c =
    λ t joins. join_step g.met.C.Ord.total g.met.C.Cell.exact c.args.on.now c.args.rights.now c.args.lefts.now t c.in_ok-others.others c.loop-row.row-index c.row-item.result c.in_ok-key.key c.loop-row.set.keys c.add_joined.new.set.keys
    c.loop-row-test.true c.row-item.is c.in_ok-key.ensures joins (in_at c.args.lefts.now c.loop-row.row-index c.row-item.result c.loop-row-test.true c.row-item.is) c.in_ok-others.ensures.rows (c.loop-row.invariant t joins)
    (rw c.as_slice.ensures at c.in_ok-add_joined.ensures)
