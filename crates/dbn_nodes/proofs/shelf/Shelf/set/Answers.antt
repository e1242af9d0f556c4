use Rattle.std.proofs.Common.{sym, ap, ◌∙◌, cond}
use Rattle.std.specs.Ordering.{is_eq}
use Rattle.std.specs.BTreeMap.{is_at}
use Rattle.std.specs.Cmp.Lexicographic.{slice_cmp, lists_total}
use Rattle.std.specs.FinMap.{slice_cmp-IsAntisymmetric}
use Rattle.dbn_nodes.specs.Tables.{shelf_count}
use Rattle.dbn_nodes.specs.Entries.{entries_in}
use Rattle.dbn_nodes.proofs.ShelfLaws.{one_changed, filled_put, one_held, two_count, two_filled}
use Rattle.dbn_nodes.proofs.shelf.Shelf.set.Goals as goal

pub returns-then-is_eq-clause-ok : goal.returns-then-is_eq-clause-ok
returns-then-is_eq-clause-ok g c =
    λ q. one_changed (lists_total g.met.C.Ord.total) (slice_cmp-IsAntisymmetric g.met.C.Cell.exact) c.args.row c.in-One.own c.in-One.held c.args.many
    (ap is_eq (sym c.cmp.ensures) ∙ sym c.is_eq.ensures ∙ c.if-is_eq.true) q
    ∙ ap (λ es. cond (is_at (slice_cmp g.C.Ord.cmp c.args.row) q) c.args.many (shelf_count (slice_cmp g.C.Ord.cmp) es q)) (sym (sym c.self.view_is ∙ ap entries_in c.in-One.is))

pub returns-in_ok-rows-in-One-clause-ok : goal.returns-in_ok-rows-in-One-clause-ok
returns-in_ok-rows-in-One-clause-ok g c =
    λ q. two_count (lists_total g.met.C.Ord.total) (slice_cmp-IsAntisymmetric g.met.C.Cell.exact) c.in_ok-rows-in-One.rows.entries c.args.row c.in-One.own c.args.many c.in-One.held c.in_ok-rows-in-One.ensures.found q
    ∙ ap (λ es. cond (is_at (slice_cmp g.C.Ord.cmp c.args.row) q) c.args.many (shelf_count (slice_cmp g.C.Ord.cmp) es q)) (sym (sym c.self.view_is ∙ ap entries_in c.in-One.is))

pub invariant_of-self-in-One : goal.invariant_of-self-in-One
invariant_of-self-in-One g c =
    let inv = rw c.in-One.is at c.self.invariant in
    two_filled (lists_total g.met.C.Ord.total) (slice_cmp-IsAntisymmetric g.met.C.Cell.exact) c.in_ok-rows-in-One.rows.entries c.args.row c.in-One.own c.args.many c.in-One.held c.requires.some
    (one_held (lists_total g.met.C.Ord.total) (slice_cmp-IsAntisymmetric g.met.C.Cell.exact) c.in-One.own c.in-One.held inv) c.in_ok-rows-in-One.ensures.found c.in_ok-rows-in-One.ensures.ordered

pub invariant_of-self-in-Many : goal.invariant_of-self-in-Many
invariant_of-self-in-Many g c =
    let inv = rw c.in-Many.is at c.self.invariant in
    filled_put (lists_total g.met.C.Ord.total) (slice_cmp-IsAntisymmetric g.met.C.Cell.exact) c.in-Many.rows.entries c.insert.new.self.entries c.args.row c.args.many c.requires.some
    c.in_ok-insert-in-Many.ensures.updates.0 inv.filled c.in_ok-insert-in-Many.ensures.ordered
