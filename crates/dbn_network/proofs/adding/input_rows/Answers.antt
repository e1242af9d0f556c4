use Rattle.dbn_network.proofs.TableLaws.{feed_rows_are}
use Rattle.dbn_network.proofs.adding.input_rows.Goals as goal

pub returns-in-Feed : goal.returns-in-Feed
returns-in-Feed g c =
    λ shapes net. rw c.in-Feed.is (feed_rows_are g.met.C.Ord.total g.met.C.Cell.exact shapes c.args.states.now c.args.tables.now net c.in-Feed.feed c.in_ok-rows-in-Feed.rows c.in_ok-rows-in-Feed.ensures)
