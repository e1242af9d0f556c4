use Rattle.std.proofs.Common.{subst}
use Rattle.std.specs.Cmp.Lexicographic.{slice_cmp, lists_total}
use Rattle.std.specs.FinMap.{slice_cmp-IsAntisymmetric}
use Rattle.dbn_nodes.specs.Tables.{IsTable}
use Rattle.dbn_nodes.proofs.KeyedLaws.{found_at, within_found, within_left}
use Rattle.dbn_nodes.proofs.keyed.Keyed.is_within.Goals as goal

pub returns-in-Some-get : goal.returns-in-Some-get
returns-in-Some-get g c =
    within_found (lists_total g.met.C.Ord.total) (slice_cmp-IsAntisymmetric g.met.C.Cell.exact) c.args.self.now c.args.other.now c.args.key.now _ _ c.is_within.result
    (found_at (lists_total g.met.C.Ord.total) (slice_cmp-IsAntisymmetric g.met.C.Cell.exact) c.self.inside.shelves.entries c.args.self.now c.args.key.now _ c.self.view_is c.in-Some.ensures.value)
    (found_at (lists_total g.met.C.Ord.total) (slice_cmp-IsAntisymmetric g.met.C.Cell.exact) c.other.inside.shelves.entries c.args.other.now c.args.key.now _ c.other.view_is c.in-Some-get.ensures.value)
    c.is_within.ensures

pub returns-in-None-get : goal.returns-in-None-get
returns-in-None-get g c =
    within_left (lists_total g.met.C.Ord.total) (slice_cmp-IsAntisymmetric g.met.C.Cell.exact) c.args.self.now c.args.other.now c.args.key.now _ (subst (IsTable (slice_cmp g.C.Ord.cmp)) c.self.view_is c.self.invariant)
    (found_at (lists_total g.met.C.Ord.total) (slice_cmp-IsAntisymmetric g.met.C.Cell.exact) c.self.inside.shelves.entries c.args.self.now c.args.key.now _ c.self.view_is c.in-Some.ensures.value)
    (found_at (lists_total g.met.C.Ord.total) (slice_cmp-IsAntisymmetric g.met.C.Cell.exact) c.other.inside.shelves.entries c.args.other.now c.args.key.now _ c.other.view_is c.in-None-get.ensures.value)
