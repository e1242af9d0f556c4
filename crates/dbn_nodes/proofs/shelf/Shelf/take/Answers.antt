use Rattle.std.proofs.Common.{◌≡◌, sym, ap, ◌∙◌, subst, cond, false, ◌∷◌, []}
use Rattle.std.specs.Ordering.{is_eq}
use Rattle.std.specs.BTreeMap.{is_at}
use Rattle.std.specs.Cmp.Lexicographic.{slice_cmp, lists_total}
use Rattle.std.specs.FinMap.{slice_cmp-IsAntisymmetric}
use Rattle.dbn_nodes.specs.Tables.{shelf_count}
use Rattle.dbn_nodes.specs.Entries.{entries_in}
use Rattle.dbn_nodes.proofs.ShelfLaws.{one_same, one_count, absent_same, taken_gone, filled_taken, nil_of, one_filled_row, one_held, some_there}
use Rattle.std.proofs.lemmas.Bool.{true≢false}
use Rattle.dbn_nodes.proofs.shelf.Shelf.take.Goals as goal

pub returns-in-One-clause-told : goal.returns-in-One-clause-told
returns-in-One-clause-told g c =
    c.count_if-many.ensures
    ∙ one_count (lists_total g.met.C.Ord.total) (slice_cmp-IsAntisymmetric g.met.C.Cell.exact) c.args.row.now c.in-One.own c.in-One.held c.is_eq-same.result (ap is_eq (sym c.cmp.ensures) ∙ sym c.is_eq-same.ensures)
    ∙ ap (λ es. shelf_count (slice_cmp g.C.Ord.cmp) es c.args.row.now) (sym (sym c.self.view_is ∙ ap entries_in c.in-One.is))

pub returns-in-One-clause-gone : goal.returns-in-One-clause-gone
returns-in-One-clause-gone g c =
    λ e q. subst (λ es. shelf_count (slice_cmp g.C.Ord.cmp) es q ≡ cond (is_at (slice_cmp g.C.Ord.cmp c.args.row.now) q) (shelf_count (slice_cmp g.C.Ord.cmp) es c.args.row.now) 0)
    (sym (sym c.self.view_is ∙ ap entries_in c.in-One.is))
    (one_same (lists_total g.met.C.Ord.total) (slice_cmp-IsAntisymmetric g.met.C.Cell.exact) c.args.row.now c.in-One.own c.in-One.held (ap is_eq (sym c.cmp.ensures) ∙ sym c.is_eq-same.ensures ∙ e) q)

pub returns-in-One-clause-left : goal.returns-in-One-clause-left
returns-in-One-clause-left g c =
    λ e q. subst (λ es. shelf_count (slice_cmp g.C.Ord.cmp) ((c.in-One.own, c.in-One.held) ∷ []) q ≡ cond (is_at (slice_cmp g.C.Ord.cmp c.args.row.now) q) 0 (shelf_count (slice_cmp g.C.Ord.cmp) es q))
    (sym (sym c.self.view_is ∙ ap entries_in c.in-One.is))
    (absent_same (lists_total g.met.C.Ord.total) (slice_cmp-IsAntisymmetric g.met.C.Cell.exact) ((c.in-One.own, c.in-One.held) ∷ []) c.args.row.now
    (sym (one_count (lists_total g.met.C.Ord.total) (slice_cmp-IsAntisymmetric g.met.C.Cell.exact) c.args.row.now c.in-One.own c.in-One.held false (ap is_eq (sym c.cmp.ensures) ∙ sym c.is_eq-same.ensures ∙ e))) q)

pub invariant_of-self-in-Many : goal.invariant_of-self-in-Many
invariant_of-self-in-Many g c =
    let inv = rw c.in-Many.is at c.self.invariant in
    filled_taken (lists_total g.met.C.Ord.total) (slice_cmp-IsAntisymmetric g.met.C.Cell.exact) c.in-Many.rows.entries c.remove.new.self.entries c.args.row.now c.remove.ensures.updates.0 inv.filled c.remove.ensures.ordered

pub returns-in-Many-clause-gone : goal.returns-in-Many-clause-gone
returns-in-Many-clause-gone g c =
    λ e q. subst (λ es. shelf_count (slice_cmp g.C.Ord.cmp) es q ≡ cond (is_at (slice_cmp g.C.Ord.cmp c.args.row.now) q) (shelf_count (slice_cmp g.C.Ord.cmp) es c.args.row.now) 0)
    (sym (sym c.self.view_is ∙ ap entries_in c.in-Many.is))
    (taken_gone (lists_total g.met.C.Ord.total) (slice_cmp-IsAntisymmetric g.met.C.Cell.exact) c.in-Many.rows.entries c.remove.new.self.entries c.args.row.now c.remove.ensures.updates.0 (nil_of c.remove.new.self.entries (c.is_empty-empty.ensures.0 e)) q)

pub returns-in-One-clause-some : goal.returns-in-One-clause-some
returns-in-One-clause-some g c =
    λ e. one_filled_row (lists_total g.met.C.Ord.total) (slice_cmp-IsAntisymmetric g.met.C.Cell.exact) c.in-One.own c.in-One.held
    (let inv = rw c.in-One.is at c.self.invariant in one_held (lists_total g.met.C.Ord.total) (slice_cmp-IsAntisymmetric g.met.C.Cell.exact) c.in-One.own c.in-One.held inv)

pub returns-in-Many-clause-some : goal.returns-in-Many-clause-some
returns-in-Many-clause-some g c =
    λ e. some_there (lists_total g.met.C.Ord.total) (slice_cmp-IsAntisymmetric g.met.C.Cell.exact) c.remove.new.self.entries (invariant_of-self-in-Many g c).filled
    (λ none. true≢false (sym (c.is_empty-empty.ensures.1 none) ∙ e))
