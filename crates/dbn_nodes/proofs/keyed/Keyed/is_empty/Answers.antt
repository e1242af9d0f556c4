use Rattle.std.proofs.Common.{◌≡◌, sym, subst}
use Rattle.std.specs.Cmp.Lexicographic.{slice_cmp, lists_total}
use Rattle.std.specs.FinMap.{slice_cmp-IsAntisymmetric}
use Rattle.dbn_nodes.specs.Tables.{count_at}
use Rattle.dbn_nodes.proofs.KeyedLaws.{none_at, none_there}
use Rattle.dbn_nodes.proofs.keyed.Keyed.is_empty.Goals as goal

pub returns : goal.returns
returns g c = (
  λ e k r. subst (λ t. count_at (slice_cmp g.C.Ord.cmp) t k r ≡ 0) c.self.view_is (none_at (lists_total g.met.C.Ord.total) (slice_cmp-IsAntisymmetric g.met.C.Cell.exact) c.self.inside.shelves.entries (c.is_empty.ensures.0 e) k r),
  λ none. c.is_empty.ensures.1 (none_there (lists_total g.met.C.Ord.total) (slice_cmp-IsAntisymmetric g.met.C.Cell.exact) c.self.inside.shelves.entries c.self.invariant
      (λ k r. subst (λ t. count_at (slice_cmp g.C.Ord.cmp) t k r ≡ 0) (sym c.self.view_is) (none k r))),
)
