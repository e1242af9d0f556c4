use Rattle.std.proofs.Common.{sym, ap, ◌∙◌, subst, cond, Some}
use Rattle.std.specs.Cmp.Lexicographic.{slice_cmp, lists_total}
use Rattle.std.specs.FinMap.{slice_cmp-IsAntisymmetric}
use Rattle.std.specs.Map.{lookup}
use Rattle.std.specs.BTreeMap.{is_at}
use Rattle.dbn_nodes.specs.Tables.{count_at, shelf_count, IsTable}
use Rattle.dbn_nodes.proofs.KeyedLaws.{changed_counts, changed_table, filled_set, unchanged, new_counts, put_table, on_err, if_both}
use Rattle.dbn_nodes.proofs.keyed.Keyed.set.Goals as goal

pub invariant_of-self-in_err-set-in-Some : goal.invariant_of-self-in_err-set-in-Some
invariant_of-self-in_err-set-in-Some g c =
    subst (IsTable (slice_cmp g.C.Ord.cmp))
    (sym (unchanged (lists_total g.met.C.Ord.total) (slice_cmp-IsAntisymmetric g.met.C.Cell.exact) c.self.inside.shelves.entries (c.get_mut.follows.lender c.set.new.self).entries c.args.key c.in-Some.shelf.now c.set.new.self
    (sym c.in-Some.ensures.value) (c.get_mut.follows.holds c.set.new.self).0 c.in_err-set-in-Some.ensures.err))
    c.self.invariant

pub returns-in_err-set-in-Some-clause-err : goal.returns-in_err-set-in-Some-clause-err
returns-in_err-set-in-Some-clause-err g c =
    on_err c.from_residual-in_err-set-in-Some.result
    (unchanged (lists_total g.met.C.Ord.total) (slice_cmp-IsAntisymmetric g.met.C.Cell.exact) c.self.inside.shelves.entries (c.get_mut.follows.lender c.set.new.self).entries c.args.key c.in-Some.shelf.now c.set.new.self
    (sym c.in-Some.ensures.value) (c.get_mut.follows.holds c.set.new.self).0 c.in_err-set-in-Some.ensures.err
    ∙ c.self.view_is)

pub invariant_of-self-in-Some : goal.invariant_of-self-in-Some
invariant_of-self-in-Some g c =
    changed_table (lists_total g.met.C.Ord.total) (slice_cmp-IsAntisymmetric g.met.C.Cell.exact) c.self.inside.shelves.entries (c.get_mut.follows.lender c.set.new.self).entries c.args.key c.in-Some.shelf.now c.set.new.self
    (sym c.in-Some.ensures.value) (c.get_mut.follows.holds c.set.new.self).0 c.self.invariant
    (filled_set (lists_total g.met.C.Ord.total) (slice_cmp-IsAntisymmetric g.met.C.Cell.exact) c.set.new.self c.args.row c.args.many (shelf_count (slice_cmp g.C.Ord.cmp) c.in-Some.shelf.now) c.in_ok-set-in-Some.ensures.ok c.requires.some)

pub returns-in-Some-clause-ok : goal.returns-in-Some-clause-ok
returns-in-Some-clause-ok g c =
    λ k r. changed_counts (lists_total g.met.C.Ord.total) (slice_cmp-IsAntisymmetric g.met.C.Cell.exact) c.self.inside.shelves.entries (c.get_mut.follows.lender c.set.new.self).entries c.args.key c.args.row c.args.many c.in-Some.shelf.now c.set.new.self
    (sym c.in-Some.ensures.value) (c.get_mut.follows.holds c.set.new.self).0 c.in_ok-set-in-Some.ensures.ok k r
    ∙ ap (λ t. if_both (slice_cmp g.C.Ord.cmp) c.args.key c.args.row k r c.args.many (count_at (slice_cmp g.C.Ord.cmp) t k r)) c.self.view_is

pub invariant_of-self-in-None : goal.invariant_of-self-in-None
invariant_of-self-in-None g c =
    put_table (lists_total g.met.C.Ord.total) (slice_cmp-IsAntisymmetric g.met.C.Cell.exact) c.self.inside.shelves.entries c.insert-in-None.new.self.entries c.args.key c.one-in-None.result
    (λ q. c.in_ok-insert-in-None.ensures.updates.0 q ∙ ap (λ m. cond (is_at (slice_cmp g.C.Ord.cmp c.args.key) q) (Some c.one-in-None.result) (lookup (is_at (slice_cmp g.C.Ord.cmp q)) m.entries)) c.get_mut.follows.holds-at-none)
    c.self.invariant
    (filled_set (lists_total g.met.C.Ord.total) (slice_cmp-IsAntisymmetric g.met.C.Cell.exact) c.one-in-None.result c.args.row c.args.many (λ q. 0) c.one-in-None.ensures c.requires.some)

pub returns-in-None-clause-ok : goal.returns-in-None-clause-ok
returns-in-None-clause-ok g c =
    λ k r. new_counts (lists_total g.met.C.Ord.total) (slice_cmp-IsAntisymmetric g.met.C.Cell.exact) c.self.inside.shelves.entries c.insert-in-None.new.self.entries c.args.key c.args.row c.args.many c.one-in-None.result
    (sym c.in-None.ensures.value)
    (λ q. c.in_ok-insert-in-None.ensures.updates.0 q ∙ ap (λ m. cond (is_at (slice_cmp g.C.Ord.cmp c.args.key) q) (Some c.one-in-None.result) (lookup (is_at (slice_cmp g.C.Ord.cmp q)) m.entries)) c.get_mut.follows.holds-at-none)
    c.one-in-None.ensures k r
    ∙ ap (λ t. if_both (slice_cmp g.C.Ord.cmp) c.args.key c.args.row k r c.args.many (count_at (slice_cmp g.C.Ord.cmp) t k r)) c.self.view_is

pub invariant_of-self-then-is_behind : goal.invariant_of-self-then-is_behind
invariant_of-self-then-is_behind g c =
    put_table (lists_total g.met.C.Ord.total) (slice_cmp-IsAntisymmetric g.met.C.Cell.exact) c.self.inside.shelves.entries c.insert.new.self.entries c.args.key c.one.result c.in_ok-insert.ensures.updates.0
    c.self.invariant
    (filled_set (lists_total g.met.C.Ord.total) (slice_cmp-IsAntisymmetric g.met.C.Cell.exact) c.one.result c.args.row c.args.many (λ q. 0) c.one.ensures c.requires.some)

pub returns-then-is_behind-clause-ok : goal.returns-then-is_behind-clause-ok
returns-then-is_behind-clause-ok g c =
    λ k r. new_counts (lists_total g.met.C.Ord.total) (slice_cmp-IsAntisymmetric g.met.C.Cell.exact) c.self.inside.shelves.entries c.insert.new.self.entries c.args.key c.args.row c.args.many c.one.result
    (c.is_behind.ensures c.if-is_behind.true) c.in_ok-insert.ensures.updates.0
    c.one.ensures k r
    ∙ ap (λ t. if_both (slice_cmp g.C.Ord.cmp) c.args.key c.args.row k r c.args.many (count_at (slice_cmp g.C.Ord.cmp) t k r)) c.self.view_is
