use Rattle.std.proofs.Common.{◌≡◌, ◌++◌, ◌∷◌, [], map, take, sym, ◌∙◌, subst}
use Rattle.std.specs.List.Sorted.{IsStrictlySortedBy}
use Rattle.dbn_value.specs.Order.{row_cmp}
use Rattle.dbn_net.specs.Tables.{columns, place_shapes}
use Rattle.dbn_net.specs.Enabled.{view_rows}
use Rattle.dbn_slow.specs.Clauses.{read_clause, IsJoined}
use Rattle.dbn_slow.proofs.ViewLaws.{view_sorted}
use Rattle.dbn_slow.proofs.JoinLaws.{joined_mapped}
use Rattle.dbn_slow.proofs.listing.add_reads.Goals as goal

pub add_clause-requires : goal.add_clause-requires
add_clause-requires c =
    let rows : view_rows c.args.net.now c.args.instance.now c.read-item.result.view ≡ c.as_slice.result.now = sym (c.as_slice.ensures ∙ c.in_ok-rows.ensures) in
    subst (IsStrictlySortedBy row_cmp) rows (view_sorted c.args.net.now c.args.instance.now c.read-item.result.view)

pub loop-read-preserved : goal.loop-read-preserved
loop-read-preserved c = λ cs joined.
    let f = read_clause c.args.net.now c.args.instance.now in
    let rs = c.args.reads.now in
    let i = c.loop-read.read-index in
    let r = c.read-item.result in
    let rows : c.as_slice.result.now ≡ view_rows c.args.net.now c.args.instance.now r.view = c.as_slice.ensures ∙ c.in_ok-rows.ensures in
    joined_mapped f rs i r cs c.add_clause.new.atoms c.add_clause.new.shown c.loop-read-test.true c.read-item.is
    (subst (λ l. IsJoined ((cs ++ map f (take i rs)) ++ record { terms = r.terms; shape = columns (place_shapes c.args.net.now) r.view; rows = l } ∷ []) c.add_clause.new.atoms c.add_clause.new.shown) rows
    (c.in_ok-add_clause.ensures (cs ++ map f (take i rs)) (columns (place_shapes c.args.net.now) r.view) (c.loop-read.invariant cs joined)))
