use Rattle.std.proofs.Common.{◌≡◌, [], take, not, nat_lt}
use Rattle.std.specs.List.{filter}
use Rattle.std.specs.Cmp.Lexicographic.{slice_cmp}
use Rattle.dbn_nodes.specs.Tables.{count_at}
use Rattle.dbn_nodes.proofs.answering.missing_rows.Given as goal

abbrev pub invariant-loop-row : goal.invariant-loop-row
invariant-loop-row g l = l.out ≡ filter (λ row. not (nat_lt 0 (count_at (slice_cmp g.C.Ord.cmp) l.table [] row))) (take l.row-index l.lefts)
