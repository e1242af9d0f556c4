use Rattle.std.specs.Cmp.Lexicographic.{lists_total}
use Rattle.std.specs.FinMap.{slice_cmp-IsAntisymmetric}
use Rattle.dbn_nodes.proofs.ShelfLaws.{one_filled, one_is}
use Rattle.dbn_nodes.proofs.shelf.Shelf.one.Goals as goal

pub invariant_of-result : goal.invariant_of-result
invariant_of-result g c = one_filled (lists_total g.met.C.Ord.total) (slice_cmp-IsAntisymmetric g.met.C.Cell.exact) c.args.row c.args.many c.requires.some

pub returns : goal.returns
returns g c = one_is (lists_total g.met.C.Ord.total) (slice_cmp-IsAntisymmetric g.met.C.Cell.exact) c.args.row c.args.many
