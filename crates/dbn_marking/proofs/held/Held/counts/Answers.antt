use Rattle.std.proofs.Common.{rules, ◌≡◌, subst, sym}
use Rattle.std.specs.Cmp.Lexicographic.{slice_cmp}
use Rattle.dbn_marking.specs.Counts.{IsCounted}
use Rattle.dbn_marking.proofs.held.Held.counts.Goals as goal

pub returns-clause-counted : goal.returns-clause-counted
returns-clause-counted g c =
    let all : c.args.self.now ≡ c.self.inside.rows.entries = search rules in
    subst (IsCounted (slice_cmp g.C.Ord.cmp)) (sym all) c.self.invariant
