use Rattle.std.proofs.Common.{[], map, ap, ◌∙◌}
use Rattle.std.specs.List.{list_any}
use Rattle.dbn_value.specs.Scope.{bind, value_of}
use Rattle.dbn_formula.specs.Holds.{row_eq}
use Rattle.dbn_net.specs.Enabled.{view_rows}
use Rattle.dbn_slow.proofs.enabling.is_read.Goals as goal

pub returns : goal.returns
returns c =
    let db = c.args.instance.now in
    let bound = c.args.bound.now in
    c.has_row.ensures
    ∙ ap (λ rows. list_any (λ row. row_eq row c.in_ok-tuple.tuple) rows) (c.as_slice-3.ensures ∙ c.in_ok-rows.ensures)
    ∙ ap (λ tuple. list_any (λ row. row_eq row tuple) (view_rows c.args.net.now db c.args.read.now.view))
    (c.in_ok-tuple.ensures ∙ ap (λ scope. map (value_of (bind scope bound [])) c.as_slice.result.now) c.as_slice-2.ensures ∙ ap (map (value_of (bind c.args.scope.now bound []))) c.as_slice.ensures)
