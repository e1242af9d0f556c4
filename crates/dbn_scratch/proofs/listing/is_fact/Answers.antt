use Rattle.std.proofs.Common.{map, ap, ◌∙◌, slice_index_or, []}
use Rattle.std.specs.List.{list_any}
use Rattle.std.specs.BTreeMap.{is_at}
use Rattle.dbn_value.specs.Order.{row_cmp}
use Rattle.dbn_value.specs.Scope.{value_of}
use Rattle.dbn_scratch.specs.Envs.{env_of}
use Rattle.dbn_scratch.proofs.LoopLaws.{turned_rows}
use Rattle.dbn_scratch.proofs.listing.is_fact.Goals as goal

pub returns-in_ok-row : goal.returns-in_ok-row
returns-in_ok-row c =
    let rows = slice_index_or c.args.world.now.instance.now c.args.rel [] in
    c.has_row.ensures ∙ ap (λ r. list_any (is_at (row_cmp r)) rows) c.in_ok-row.ensures ∙ turned_rows (map (value_of (env_of c.args.env.now)) c.args.terms.now) rows
