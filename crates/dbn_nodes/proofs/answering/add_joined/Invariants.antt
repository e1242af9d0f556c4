use Rattle.std.proofs.Common.{◌≡◌, ◌++◌, List, map, take}
use Rattle.std.specs.Cmp.Lexicographic.{slice_cmp}
use Rattle.dbn_value.specs.Ascending.{ascending}
use Rattle.dbn_nodes.proofs.answering.add_joined.Given as goal

abbrev pub invariant-loop-other : goal.invariant-loop-other
invariant-loop-other g l = (xs : List (List _)) → l.fn.set.keys ≡ ascending (slice_cmp g.C.Ord.cmp) xs → l.set.keys ≡ ascending (slice_cmp g.C.Ord.cmp) (xs ++ map (λ b. l.row ++ b) (take l.other-index l.others))
