use Rattle.std.proofs.Common.{◌∙◌, sym, ap, subst}
use Rattle.std.specs.Cmp.Lexicographic.{slice_cmp, lists_total}
use Rattle.std.specs.FinMap.{slice_cmp-IsAntisymmetric}
use Rattle.dbn_nodes.specs.Tables.{IsShelf}
use Rattle.dbn_nodes.specs.Entries.{entries_in}
use Rattle.dbn_nodes.proofs.ShelfLaws.{one_within, many_within}
use Rattle.dbn_nodes.proofs.shelf.Shelf.is_within.Goals as goal

pub returns-in-One : goal.returns-in-One
returns-in-One g c =
    one_within (lists_total g.met.C.Ord.total) (slice_cmp-IsAntisymmetric g.met.C.Cell.exact) c.args.self.now _ _ c.args.other.now c.count.result
    (sym c.self.view_is ∙ ap entries_in c.in-One.is) (subst (IsShelf (slice_cmp g.C.Ord.cmp)) c.self.view_is c.self.invariant) c.count.ensures

pub returns-in-Many : goal.returns-in-Many
returns-in-Many g c =
    many_within (lists_total g.met.C.Ord.total) (slice_cmp-IsAntisymmetric g.met.C.Cell.exact) c.args.self.now _ c.args.other.now c.are_on.result
    (sym c.self.view_is ∙ ap entries_in c.in-Many.is) (subst (IsShelf (slice_cmp g.C.Ord.cmp)) c.self.view_is c.self.invariant) c.are_on.ensures
