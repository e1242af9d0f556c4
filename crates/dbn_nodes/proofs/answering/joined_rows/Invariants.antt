use Rattle.std.proofs.Common.{◌≡◌, List, take}
use Rattle.std.specs.Cmp.Lexicographic.{slice_cmp}
use Rattle.dbn_value.specs.Ascending.{ascending}
use Rattle.dbn_nodes.specs.Answering.{JoinsWith, all_pairs}
use Rattle.dbn_nodes.proofs.answering.joined_rows.Given as goal

abbrev pub invariant-loop-row : goal.invariant-loop-row
invariant-loop-row g l = (t : List (List _)) → JoinsWith g.C.Ord.cmp l.on l.rights l.lefts t → l.set.keys ≡ ascending (slice_cmp g.C.Ord.cmp) (all_pairs g.C.Ord.cmp l.on (take l.row-index l.lefts) t)
