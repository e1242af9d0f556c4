use Rattle.std.proofs.Common.{rules, arith, ◌≡◌, subst, sym}
use Rattle.std.proofs.lemmas.Grind.{common_steps}
use Rattle.std.specs.Cmp.Lexicographic.{slice_cmp}
use Rattle.dbn_marking.specs.Counts.{IsMarking}
use Rattle.dbn_marking.proofs.marking.MarkingCopyIn.copy_in.Goals as goal

pub invariant_of-result : goal.invariant_of-result
invariant_of-result g c =
    let all : c.loop-held.places.items ≡ c.self.inside.places.items = grind (arith, common_steps) in
    subst (IsMarking (slice_cmp g.C.Ord.cmp)) (sym all) c.self.invariant
