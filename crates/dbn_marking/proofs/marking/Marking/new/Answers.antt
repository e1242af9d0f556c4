use Rattle.std.proofs.Common.{subst, sym}
use Rattle.std.specs.Cmp.Lexicographic.{slice_cmp}
use Rattle.dbn_marking.specs.Counts.{IsMarking}
use Rattle.dbn_marking.proofs.CountLaws.{marking_empty}
use Rattle.dbn_marking.proofs.marking.Marking.new.Goals as goal

pub invariant_of-result : goal.invariant_of-result
invariant_of-result g c = subst (IsMarking (slice_cmp g.C.Ord.cmp)) (sym c.loop.invariant) (marking_empty (slice_cmp g.C.Ord.cmp) c.loop.counter)
