use Rattle.std.proofs.Common.{List, ◌++◌, map, take}
use Rattle.dbn_slow.specs.Clauses.{Clause, read_clause, IsJoined}
use Rattle.dbn_slow.proofs.listing.add_reads.Given as goal

abbrev pub invariant-loop-read : goal.invariant-loop-read
invariant-loop-read l = (cs : List Clause) → IsJoined cs l.fn.atoms l.fn.shown → IsJoined (cs ++ map (read_clause l.net l.instance) (take l.read-index l.reads)) l.atoms l.shown
