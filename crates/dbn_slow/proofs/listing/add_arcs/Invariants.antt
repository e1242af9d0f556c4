use Rattle.std.proofs.Common.{List, ◌++◌, take}
use Rattle.std.specs.List.{flat_map}
use Rattle.dbn_slow.specs.Clauses.{Clause, arc_clauses, IsJoined}
use Rattle.dbn_slow.proofs.listing.add_arcs.Given as goal

abbrev pub invariant-loop-arc : goal.invariant-loop-arc
invariant-loop-arc l = (cs : List Clause) → IsJoined cs l.fn.atoms l.fn.shown → IsJoined (cs ++ flat_map (arc_clauses l.net l.marking) (take l.arc-index l.arcs)) l.atoms l.shown
