use Rattle.std.proofs.Common.{[], sym, subst, refl}
use Rattle.std.specs.Cmp.Lexicographic.{slice_cmp, lists_total}
use Rattle.std.specs.FinMap.{slice_cmp-IsAntisymmetric}
use Rattle.std.specs.Map.{keys_of}
use Rattle.dbn_nodes.specs.Tables.{AreRowsOf}
use Rattle.dbn_nodes.proofs.KeyedLaws.{rows_found, rows_none}
use Rattle.dbn_nodes.proofs.RowLaws.{nothing_more}
use Rattle.dbn_nodes.proofs.keyed.Keyed.join.Goals as goal

pub returns-in-Some-clause-out : goal.returns-in-Some-clause-out
returns-in-Some-clause-out g c = (
  keys_of c.in-Some.shelf.now,
  subst (λ t. AreRowsOf (slice_cmp g.C.Ord.cmp) t c.args.key.now (keys_of c.in-Some.shelf.now)) c.self.view_is
      (rows_found (lists_total g.met.C.Ord.total) (slice_cmp-IsAntisymmetric g.met.C.Cell.exact) c.self.inside.shelves.entries c.args.key.now c.in-Some.shelf.now (keys_of c.in-Some.shelf.now)
      (sym c.in-Some.ensures.value) c.in_ok-join-in-Some.ensures.held refl),
  c.in_ok-join-in-Some.ensures.out,
)

pub returns-in-None-clause-out : goal.returns-in-None-clause-out
returns-in-None-clause-out g c = (
  [],
  subst (λ t. AreRowsOf (slice_cmp g.C.Ord.cmp) t c.args.key.now []) c.self.view_is
      (rows_none (lists_total g.met.C.Ord.total) (slice_cmp-IsAntisymmetric g.met.C.Cell.exact) c.self.inside.shelves.entries c.args.key.now [] (sym c.in-None.ensures.value) refl),
  nothing_more c.args.out.now,
)
