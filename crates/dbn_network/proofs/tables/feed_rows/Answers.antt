use Rattle.std.proofs.Common.{◌∙◌, [], subst}
use Rattle.std.specs.Cmp.Lexicographic.{slice_cmp}
use Rattle.dbn_nodes.specs.Tables.{AreRowsOf}
use Rattle.dbn_network.proofs.PassLaws.{same_inside}
use Rattle.dbn_network.proofs.tables.feed_rows.Goals as goal

pub returns : goal.returns
returns g c =
    subst (λ table. AreRowsOf (slice_cmp g.C.Ord.cmp) table [] c.in_ok-rows.rows) (c.index-tables-feed.is ∙ same_inside c.args.tables.now c.args.feed c.index-tables-feed.result [] c.requires)
    (subst (λ key. AreRowsOf (slice_cmp g.C.Ord.cmp) c.index-tables-feed.result key c.in_ok-rows.rows) (c.from_vec-key.ensures ∙ c.new.ensures.items) c.in_ok-rows.ensures.rows)
