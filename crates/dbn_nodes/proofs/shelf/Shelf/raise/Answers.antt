use Rattle.std.proofs.Common.{arith, ◌≡◌, ◌+◌, [], ◌∷◌, true, false, cond, sym, ap, ◌∙◌, subst}
use Rattle.std.specs.Cmp.Lexicographic.{slice_cmp, lists_total}
use Rattle.std.specs.FinMap.{slice_cmp-IsAntisymmetric}
use Rattle.std.specs.Ordering.{is_eq}
use Rattle.std.specs.BTreeMap.{is_at}
use Rattle.dbn_nodes.specs.Tables.{shelf_count}
use Rattle.dbn_nodes.specs.Entries.{entries_in}
use Rattle.dbn_nodes.proofs.ShelfLaws.{one_count, one_filled, one_held, raised_one, raised_two, two_filled, put_at_count, filled_put}
use Rattle.dbn_nodes.proofs.shelf.Shelf.raise.Goals as goal

pub returns-then-is_eq-clause-told : goal.returns-then-is_eq-clause-told
returns-then-is_eq-clause-told g c =
    one_count (lists_total g.met.C.Ord.total) (slice_cmp-IsAntisymmetric g.met.C.Cell.exact) c.args.row.now c.in-One.own c.in-One.held true (ap is_eq (sym c.cmp.ensures) ∙ sym c.is_eq.ensures ∙ c.if-is_eq.true)
    ∙ ap (λ es. shelf_count (slice_cmp g.C.Ord.cmp) es c.args.row.now) (sym (sym c.self.view_is ∙ ap entries_in c.in-One.is))

pub returns-then-is_eq-clause-ok : goal.returns-then-is_eq-clause-ok
returns-then-is_eq-clause-ok g c =
    λ q. subst (λ es. shelf_count (slice_cmp g.C.Ord.cmp) ((c.in-One.own, c.in-One.held + 1) ∷ []) q ≡ cond (is_at (slice_cmp g.C.Ord.cmp c.args.row.now) q) (shelf_count (slice_cmp g.C.Ord.cmp) es c.args.row.now + 1) (shelf_count (slice_cmp g.C.Ord.cmp) es q))
    (sym (sym c.self.view_is ∙ ap entries_in c.in-One.is))
    (raised_one (lists_total g.met.C.Ord.total) (slice_cmp-IsAntisymmetric g.met.C.Cell.exact) c.args.row.now c.in-One.own c.in-One.held (ap is_eq (sym c.cmp.ensures) ∙ sym c.is_eq.ensures ∙ c.if-is_eq.true) q)

pub invariant_of-self-then-is_eq : goal.invariant_of-self-then-is_eq
invariant_of-self-then-is_eq g c = one_filled (lists_total g.met.C.Ord.total) (slice_cmp-IsAntisymmetric g.met.C.Cell.exact) c.in-One.own (c.in-One.held + 1) (omega arith)

pub returns-in_ok-rows-in-One-clause-told : goal.returns-in_ok-rows-in-One-clause-told
returns-in_ok-rows-in-One-clause-told g c =
    one_count (lists_total g.met.C.Ord.total) (slice_cmp-IsAntisymmetric g.met.C.Cell.exact) c.args.row.now c.in-One.own c.in-One.held false (ap is_eq (sym c.cmp.ensures) ∙ sym c.is_eq.ensures ∙ c.if-is_eq.false)
    ∙ ap (λ es. shelf_count (slice_cmp g.C.Ord.cmp) es c.args.row.now) (sym (sym c.self.view_is ∙ ap entries_in c.in-One.is))

pub returns-in_ok-rows-in-One-clause-ok : goal.returns-in_ok-rows-in-One-clause-ok
returns-in_ok-rows-in-One-clause-ok g c =
    λ q. subst (λ es. shelf_count (slice_cmp g.C.Ord.cmp) c.in_ok-rows-in-One.rows.entries q ≡ cond (is_at (slice_cmp g.C.Ord.cmp c.args.row.now) q) (shelf_count (slice_cmp g.C.Ord.cmp) es c.args.row.now + 1) (shelf_count (slice_cmp g.C.Ord.cmp) es q))
    (sym (sym c.self.view_is ∙ ap entries_in c.in-One.is))
    (raised_two (lists_total g.met.C.Ord.total) (slice_cmp-IsAntisymmetric g.met.C.Cell.exact) c.in_ok-rows-in-One.rows.entries c.args.row.now c.in_ok-copy_in-in-One.field-0 c.in-One.own c.in-One.held c.in_ok-copy_in-in-One.ensures
    (ap is_eq (sym c.cmp.ensures) ∙ sym c.is_eq.ensures ∙ c.if-is_eq.false) c.in_ok-rows-in-One.ensures.found q)

pub invariant_of-self-in-One : goal.invariant_of-self-in-One
invariant_of-self-in-One g c =
    let inv = rw c.in-One.is at c.self.invariant in
    two_filled (lists_total g.met.C.Ord.total) (slice_cmp-IsAntisymmetric g.met.C.Cell.exact) c.in_ok-rows-in-One.rows.entries c.in_ok-copy_in-in-One.field-0 c.in-One.own 1 c.in-One.held (omega arith)
    (one_held (lists_total g.met.C.Ord.total) (slice_cmp-IsAntisymmetric g.met.C.Cell.exact) c.in-One.own c.in-One.held inv) c.in_ok-rows-in-One.ensures.found c.in_ok-rows-in-One.ensures.ordered

pub returns-in_ok-many-in-Many-clause-told : goal.returns-in_ok-many-in-Many-clause-told
returns-in_ok-many-in-Many-clause-told g c =
    c.in_ok-many-in-Many.ensures.told ∙ ap (λ es. shelf_count (slice_cmp g.C.Ord.cmp) es c.args.row.now) (sym (sym c.self.view_is ∙ ap entries_in c.in-Many.is))

pub returns-in_ok-many-in-Many-clause-ok : goal.returns-in_ok-many-in-Many-clause-ok
returns-in_ok-many-in-Many-clause-ok g c =
    λ q. subst (λ es. shelf_count (slice_cmp g.C.Ord.cmp) c.raise_in.new.rows.entries q ≡ cond (is_at (slice_cmp g.C.Ord.cmp c.args.row.now) q) (shelf_count (slice_cmp g.C.Ord.cmp) es c.args.row.now + 1) (shelf_count (slice_cmp g.C.Ord.cmp) es q))
    (sym (sym c.self.view_is ∙ ap entries_in c.in-Many.is))
    (put_at_count (lists_total g.met.C.Ord.total) (slice_cmp-IsAntisymmetric g.met.C.Cell.exact) c.in-Many.rows.entries c.raise_in.new.rows.entries c.args.row.now (shelf_count (slice_cmp g.C.Ord.cmp) c.in-Many.rows.entries c.args.row.now + 1) c.in_ok-many-in-Many.ensures.found q)

pub invariant_of-self-in-Many : goal.invariant_of-self-in-Many
invariant_of-self-in-Many g c =
    let inv = rw c.in-Many.is at c.self.invariant in
    filled_put (lists_total g.met.C.Ord.total) (slice_cmp-IsAntisymmetric g.met.C.Cell.exact) c.in-Many.rows.entries c.raise_in.new.rows.entries c.args.row.now (shelf_count (slice_cmp g.C.Ord.cmp) c.in-Many.rows.entries c.args.row.now + 1) (omega arith)
    c.in_ok-many-in-Many.ensures.found inv.filled c.in_ok-many-in-Many.ensures.ordered
