use Rattle.std.proofs.Common.{arith, ◌+◌, sym, ap, subst}
use Rattle.std.specs.Cmp.Lexicographic.{slice_cmp, lists_total}
use Rattle.std.specs.FinMap.{slice_cmp-IsAntisymmetric}
use Rattle.dbn_nodes.specs.Tables.{shelf_count, IsTable}
use Rattle.dbn_nodes.proofs.KeyedLaws.{changed_table, filled_set, unchanged, told_at, told_none, raised_counts, first_counts, first_table}
use Rattle.dbn_nodes.proofs.keyed.Keyed.raise.Goals as goal

pub invariant_of-self : goal.invariant_of-self
invariant_of-self g c =
    subst (IsTable (slice_cmp g.C.Ord.cmp))
    (sym (unchanged (lists_total g.met.C.Ord.total) (slice_cmp-IsAntisymmetric g.met.C.Cell.exact) c.self.inside.shelves.entries (c.get_mut.follows.lender c.raise.new.self).entries c.args.key.now c.in-Some.shelf.now c.raise.new.self
    (sym c.in-Some.ensures.value) (c.get_mut.follows.holds c.raise.new.self).0 c.in_err-many-in-Some.ensures.err))
    c.self.invariant

pub invariant_of-self-in-Some : goal.invariant_of-self-in-Some
invariant_of-self-in-Some g c =
    changed_table (lists_total g.met.C.Ord.total) (slice_cmp-IsAntisymmetric g.met.C.Cell.exact) c.self.inside.shelves.entries (c.get_mut.follows.lender c.raise.new.self).entries c.args.key.now c.in-Some.shelf.now c.raise.new.self
    (sym c.in-Some.ensures.value) (c.get_mut.follows.holds c.raise.new.self).0 c.self.invariant
    (filled_set (lists_total g.met.C.Ord.total) (slice_cmp-IsAntisymmetric g.met.C.Cell.exact) c.raise.new.self c.args.row.now (shelf_count (slice_cmp g.C.Ord.cmp) c.in-Some.shelf.now c.args.row.now + 1) (shelf_count (slice_cmp g.C.Ord.cmp) c.in-Some.shelf.now) c.in_ok-many-in-Some.ensures.ok (omega arith))

pub returns-in-Some-clause-told : goal.returns-in-Some-clause-told
returns-in-Some-clause-told g c =
    told_at (lists_total g.met.C.Ord.total) (slice_cmp-IsAntisymmetric g.met.C.Cell.exact) c.self.inside.shelves.entries c.args.self.now c.args.key.now c.args.row.now c.in-Some.shelf.now c.in_ok-many-in-Some.many c.self.view_is c.in-Some.ensures.value c.in_ok-many-in-Some.ensures.told

pub returns-in-Some-clause-counts : goal.returns-in-Some-clause-counts
returns-in-Some-clause-counts g c =
    raised_counts (lists_total g.met.C.Ord.total) (slice_cmp-IsAntisymmetric g.met.C.Cell.exact) c.self.inside.shelves.entries (c.get_mut.follows.lender c.raise.new.self).entries c.args.self.now c.args.key.now c.args.row.now c.in-Some.shelf.now c.raise.new.self c.self.view_is
    (sym c.in-Some.ensures.value) (c.get_mut.follows.holds c.raise.new.self).0 c.in_ok-many-in-Some.ensures.ok

pub invariant_of-self-in-None : goal.invariant_of-self-in-None
invariant_of-self-in-None g c =
    let (shelf, counts, put) = c.in_ok-first_row-in-None.ensures.ok in
    first_table (lists_total g.met.C.Ord.total) (slice_cmp-IsAntisymmetric g.met.C.Cell.exact) c.self.inside.shelves.entries _ c.first_row.new.shelves.entries c.args.key.now c.args.row.now shelf (ap (λ m. m.entries) c.get_mut.follows.holds-at-none) put counts c.self.invariant

pub returns-in-None-clause-told : goal.returns-in-None-clause-told
returns-in-None-clause-told g c = told_none (lists_total g.met.C.Ord.total) (slice_cmp-IsAntisymmetric g.met.C.Cell.exact) c.self.inside.shelves.entries c.args.self.now c.args.key.now c.args.row.now c.self.view_is c.in-None.ensures.value

pub returns-in-None-clause-counts : goal.returns-in-None-clause-counts
returns-in-None-clause-counts g c =
    let (shelf, counts, put) = c.in_ok-first_row-in-None.ensures.ok in
    first_counts (lists_total g.met.C.Ord.total) (slice_cmp-IsAntisymmetric g.met.C.Cell.exact) c.self.inside.shelves.entries _ c.first_row.new.shelves.entries c.args.self.now c.args.key.now c.args.row.now shelf c.self.view_is (ap (λ m. m.entries) c.get_mut.follows.holds-at-none) (sym c.in-None.ensures.value) put counts
