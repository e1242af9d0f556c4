use Rattle.std.proofs.Common.{◌∙◌, subst}
use Rattle.std.specs.Cmp.Lexicographic.{slice_cmp}
use Rattle.dbn_nodes.specs.Tables.{AreRowsOf}
use Rattle.dbn_nodes.proofs.answering.supported_rows.Goals as goal

pub returns : goal.returns
returns g c = subst (λ key. AreRowsOf (slice_cmp g.C.Ord.cmp) c.args.supports.now key c.in_ok-rows.rows) (c.from_vec-key.ensures ∙ c.new.ensures.items) c.in_ok-rows.ensures.rows
