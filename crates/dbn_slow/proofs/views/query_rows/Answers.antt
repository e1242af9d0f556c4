use Rattle.std.proofs.Common.{ap}
use Rattle.dbn_net.specs.Tables.{Question, query_in, relation_shapes}
use Rattle.dbn_slow.proofs.ViewLaws.{no_other}
use Rattle.dbn_slow.proofs.views.query_rows.Goals as goal

pub answers-requires : goal.answers-requires
answers-requires c =
    let q : Question = record { name = c.in-Query.name; vars = c.in-Query.vars; body = c.in-Query.body } in
    let accepted = c.query_at.ensures.accepted q (ap query_in c.in-Query.is) in
    (relation_shapes c.args.net.now, accepted.typed, c.requires.fits)

pub unreachable-requires : goal.unreachable-requires
unreachable-requires c = no_other c.args.net.now c.args.query c.query_at.result.now c.requires.query c.query_at.ensures.value c.in_default.not-Query
