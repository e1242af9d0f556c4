use Rattle.std.proofs.Common.{rules, arith, ◌≡◌, subst, sym}
use Rattle.std.proofs.lemmas.Grind.{common_steps}
use Rattle.std.specs.Cmp.Lexicographic.{slice_cmp}
use Rattle.dbn_marking.specs.Counts.{IsCounted, place_of}
use Rattle.dbn_marking.proofs.marking.Marking.counts.Goals as goal

pub returns-clause-counted : goal.returns-clause-counted
returns-clause-counted g c =
    let is : place_of c.args.self.now c.args.place ≡ c.index.result.now = grind (arith, common_steps) in
    subst (IsCounted (slice_cmp g.C.Ord.cmp)) (sym is) c.counts.ensures.counted
