use Rattle.std.proofs.Common.{List, ◌++◌, map, take}
use Rattle.dbn_slow.specs.Clauses.{Clause, pattern_clause, IsJoined}
use Rattle.dbn_slow.proofs.listing.add_arc.Given as goal

abbrev pub invariant-loop-pattern : goal.invariant-loop-pattern
invariant-loop-pattern l =
    (cs : List Clause) → IsJoined cs l.fn.atoms l.fn.shown → IsJoined (cs ++ map (pattern_clause l.net l.marking l.arc.place) (take l.pattern-index l.arc.patterns)) l.atoms l.shown
