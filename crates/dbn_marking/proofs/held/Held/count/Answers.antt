use Rattle.std.proofs.Common.{rules, ◌≡◌, ℕ, ◌<◌, ◌^◌, subst, sym}
use Rattle.std.specs.Cmp.Lexicographic.{slice_cmp}
use Rattle.dbn_marking.specs.Counts.{count_of}
use Rattle.dbn_marking.proofs.CountLaws.{count_small}
use Rattle.dbn_marking.proofs.held.Held.count.Goals as goal

pub returns-clause-small : goal.returns-clause-small
returns-clause-small g c =
    let counted : c.unwrap_or.result ≡ count_of (slice_cmp g.C.Ord.cmp) c.self.inside.rows.entries c.args.row.now = search rules in
    subst (λ (n : ℕ). n < 2 ^ 32) (sym counted) (count_small c.self.inside.rows.entries c.args.row.now c.self.invariant)
