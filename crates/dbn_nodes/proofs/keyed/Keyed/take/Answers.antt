use Rattle.std.proofs.Common.{◌≡◌, sym, ap, ◌∙◌, subst, cond}
use Rattle.std.specs.Cmp.Lexicographic.{slice_cmp, lists_total}
use Rattle.std.specs.FinMap.{slice_cmp-IsAntisymmetric}
use Rattle.std.specs.BTreeMap.{is_at}
use Rattle.dbn_nodes.specs.Tables.{count_at, shelf_count}
use Rattle.dbn_nodes.proofs.KeyedLaws.{changed_counts, changed_table, taken_put, taken_counts, taken_table, shelf_is, absent_counts, told_at, told_none, if_both}
use Rattle.dbn_nodes.proofs.keyed.Keyed.take.Goals as goal

pub invariant_of-self : goal.invariant_of-self
invariant_of-self g c =
    taken_table (lists_total g.met.C.Ord.total) (slice_cmp-IsAntisymmetric g.met.C.Cell.exact) c.self.inside.shelves.entries c.take_out.new.shelves.entries c.args.key.now
    (taken_put (lists_total g.met.C.Ord.total) (slice_cmp-IsAntisymmetric g.met.C.Cell.exact) c.self.inside.shelves.entries (c.get_mut.follows.lender c.take-taken.new.self).entries c.take_out.new.shelves.entries c.args.key.now c.in-Some.shelf.now c.take-taken.new.self
    (sym c.in-Some.ensures.value) (c.get_mut.follows.holds c.take-taken.new.self).0 c.take_out.ensures)
    c.self.invariant

pub invariant_of-self-else-last : goal.invariant_of-self-else-last
invariant_of-self-else-last g c =
    changed_table (lists_total g.met.C.Ord.total) (slice_cmp-IsAntisymmetric g.met.C.Cell.exact) c.self.inside.shelves.entries (c.get_mut.follows.lender c.take-taken.new.self).entries c.args.key.now c.in-Some.shelf.now c.take-taken.new.self
    (sym c.in-Some.ensures.value) (c.get_mut.follows.holds c.take-taken.new.self).0 c.self.invariant (c.take-taken.ensures.some c.if-last.false)

pub returns-then-last-clause-counts : goal.returns-then-last-clause-counts
returns-then-last-clause-counts g c =
    λ k r. taken_counts (lists_total g.met.C.Ord.total) (slice_cmp-IsAntisymmetric g.met.C.Cell.exact) c.self.inside.shelves.entries c.take_out.new.shelves.entries c.args.key.now c.args.row.now
    (taken_put (lists_total g.met.C.Ord.total) (slice_cmp-IsAntisymmetric g.met.C.Cell.exact) c.self.inside.shelves.entries (c.get_mut.follows.lender c.take-taken.new.self).entries c.take_out.new.shelves.entries c.args.key.now c.in-Some.shelf.now c.take-taken.new.self
    (sym c.in-Some.ensures.value) (c.get_mut.follows.holds c.take-taken.new.self).0 c.take_out.ensures)
    (λ q. subst (λ s. shelf_count (slice_cmp g.C.Ord.cmp) s q ≡ cond (is_at (slice_cmp g.C.Ord.cmp c.args.row.now) q) (shelf_count (slice_cmp g.C.Ord.cmp) s c.args.row.now) 0)
    (shelf_is (lists_total g.met.C.Ord.total) (slice_cmp-IsAntisymmetric g.met.C.Cell.exact) c.self.inside.shelves.entries c.args.key.now c.in-Some.shelf.now (sym c.in-Some.ensures.value))
    (c.take-taken.ensures.gone c.if-last.true q))
    k r
    ∙ ap (λ t. if_both (slice_cmp g.C.Ord.cmp) c.args.key.now c.args.row.now k r 0 (count_at (slice_cmp g.C.Ord.cmp) t k r)) c.self.view_is

pub returns-else-last-clause-counts : goal.returns-else-last-clause-counts
returns-else-last-clause-counts g c =
    λ k r. changed_counts (lists_total g.met.C.Ord.total) (slice_cmp-IsAntisymmetric g.met.C.Cell.exact) c.self.inside.shelves.entries (c.get_mut.follows.lender c.take-taken.new.self).entries c.args.key.now c.args.row.now 0 c.in-Some.shelf.now c.take-taken.new.self
    (sym c.in-Some.ensures.value) (c.get_mut.follows.holds c.take-taken.new.self).0 (c.take-taken.ensures.left c.if-last.false) k r
    ∙ ap (λ t. if_both (slice_cmp g.C.Ord.cmp) c.args.key.now c.args.row.now k r 0 (count_at (slice_cmp g.C.Ord.cmp) t k r)) c.self.view_is

pub returns-in-None-clause-counts : goal.returns-in-None-clause-counts
returns-in-None-clause-counts g c =
    λ k r. ap (λ m. count_at (slice_cmp g.C.Ord.cmp) m.entries k r) c.get_mut.follows.holds-at-none
    ∙ absent_counts (lists_total g.met.C.Ord.total) (slice_cmp-IsAntisymmetric g.met.C.Cell.exact) c.self.inside.shelves.entries c.args.key.now c.args.row.now (sym c.in-None.ensures.value) k r
    ∙ ap (λ t. if_both (slice_cmp g.C.Ord.cmp) c.args.key.now c.args.row.now k r 0 (count_at (slice_cmp g.C.Ord.cmp) t k r)) c.self.view_is

pub returns-then-last-clause-told : goal.returns-then-last-clause-told
returns-then-last-clause-told g c =
    told_at (lists_total g.met.C.Ord.total) (slice_cmp-IsAntisymmetric g.met.C.Cell.exact) c.self.inside.shelves.entries c.args.self.now c.args.key.now c.args.row.now c.in-Some.shelf.now c.take-taken.result.many c.self.view_is c.in-Some.ensures.value c.take-taken.ensures.told

pub returns-else-last-clause-told : goal.returns-else-last-clause-told
returns-else-last-clause-told g c =
    told_at (lists_total g.met.C.Ord.total) (slice_cmp-IsAntisymmetric g.met.C.Cell.exact) c.self.inside.shelves.entries c.args.self.now c.args.key.now c.args.row.now c.in-Some.shelf.now c.take-taken.result.many c.self.view_is c.in-Some.ensures.value c.take-taken.ensures.told

pub returns-in-None-clause-told : goal.returns-in-None-clause-told
returns-in-None-clause-told g c = told_none (lists_total g.met.C.Ord.total) (slice_cmp-IsAntisymmetric g.met.C.Cell.exact) c.self.inside.shelves.entries c.args.self.now c.args.key.now c.args.row.now c.self.view_is c.in-None.ensures.value
