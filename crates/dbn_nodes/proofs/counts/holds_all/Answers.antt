use Rattle.std.proofs.Common.{◌∙◌, []}
use Rattle.std.specs.Cmp.Lexicographic.{lists_total}
use Rattle.std.specs.FinMap.{slice_cmp-IsAntisymmetric}
use Rattle.dbn_nodes.proofs.KeyedLaws.{within_key}
use Rattle.dbn_nodes.proofs.counts.holds_all.Goals as goal

pub returns : goal.returns
returns g c =
    within_key (lists_total g.met.C.Ord.total) (slice_cmp-IsAntisymmetric g.met.C.Cell.exact) c.args.rows.now c.args.table.now c.from_vec-key.result [] c.is_within.result
    (c.from_vec-key.ensures ∙ c.new.ensures.items) c.is_within.ensures
