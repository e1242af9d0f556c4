use Rattle.std.proofs.Common.{◌+◌, sym, ap, ◌∙◌}
use Rattle.std.specs.Cmp.Lexicographic.{slice_cmp, lists_total}
use Rattle.std.specs.FinMap.{slice_cmp-IsAntisymmetric}
use Rattle.std.specs.BTreeMap.{is_at}
use Rattle.std.proofs.lemmas.Map.Steps.{set_value_same}
use Rattle.dbn_nodes.proofs.ShelfLaws.{found_count, raised_found, raised_new, set_ordered}
use Rattle.dbn_nodes.proofs.shelf.raise_in.Goals as goal

pub returns-in-Some-clause-told : goal.returns-in-Some-clause-told
returns-in-Some-clause-told g c = found_count (lists_total g.met.C.Ord.total) (slice_cmp-IsAntisymmetric g.met.C.Cell.exact) c.args.rows.now.entries c.args.row.now c.in-Some.count.now c.in-Some.ensures.value

pub returns-in-Some-clause-found : goal.returns-in-Some-clause-found
returns-in-Some-clause-found g c =
    raised_found (lists_total g.met.C.Ord.total) (slice_cmp-IsAntisymmetric g.met.C.Cell.exact) c.args.rows.now.entries (c.get_mut.follows.lender (c.in-Some.count.now + 1)).entries c.args.row.now c.in-Some.count.now
    (sym c.in-Some.ensures.value) (c.get_mut.follows.holds (c.in-Some.count.now + 1)).0

pub returns-in-Some-clause-ordered : goal.returns-in-Some-clause-ordered
returns-in-Some-clause-ordered g c =
    set_ordered (lists_total g.met.C.Ord.total) (slice_cmp-IsAntisymmetric g.met.C.Cell.exact) c.args.rows.now.entries (c.get_mut.follows.lender (c.in-Some.count.now + 1)).entries c.args.row.now (c.in-Some.count.now + 1)
    (c.get_mut.follows.holds (c.in-Some.count.now + 1)).0 c.in-Some.ensures.ordered

pub returns-then-many-clause-err : goal.returns-then-many-clause-err
returns-then-many-clause-err g c =
    (c.get_mut.follows.holds c.in-Some.count.now).0
    ∙ set_value_same (is_at (slice_cmp g.C.Ord.cmp c.args.row.now)) c.args.rows.now.entries c.in-Some.count.now (sym c.in-Some.ensures.value)

pub returns-in-None-clause-found : goal.returns-in-None-clause-found
returns-in-None-clause-found g c =
    raised_new (lists_total g.met.C.Ord.total) (slice_cmp-IsAntisymmetric g.met.C.Cell.exact) c.args.rows.now.entries _ c.insert.new.self.entries c.args.row.now c.in_ok-copy_in-in-None.field-0
    (sym c.in-None.ensures.value) (ap (λ m. m.entries) c.get_mut.follows.holds-at-none) c.in_ok-copy_in-in-None.ensures c.in_ok-insert-in-None.ensures.updates.0
