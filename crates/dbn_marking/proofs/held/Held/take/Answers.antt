use Rattle.std.proofs.Common.{rules, ◌≡◌, ◌≤◌, subst, sym}
use Rattle.std.specs.Cmp.Lexicographic.{lists_total, slice_cmp}
use Rattle.dbn_marking.specs.Counts.{IsCounted, taken, count_of}
use Rattle.dbn_marking.proofs.CountLaws.{counted_taken}
use Rattle.dbn_marking.proofs.held.Held.take.Goals as goal

pub invariant_of-self : goal.invariant_of-self
invariant_of-self g c =
    let left : c.remove.new.self.entries ≡ taken (slice_cmp g.C.Ord.cmp) c.self.inside.rows.entries c.args.row.now c.args.many = search rules in
    let there : c.args.many ≤ count_of (slice_cmp g.C.Ord.cmp) c.self.inside.rows.entries c.args.row.now = search rules in
    subst (IsCounted (slice_cmp g.C.Ord.cmp)) (sym left)
    (counted_taken (lists_total g.met.C.Ord.total) c.self.inside.rows.entries c.args.row.now c.args.many c.self.invariant c.requires.some there)

pub invariant_of-self-2 : goal.invariant_of-self-2
invariant_of-self-2 g c =
    let left : c.match-get_mut.self-inside.rows.entries ≡ taken (slice_cmp g.C.Ord.cmp) c.self.inside.rows.entries c.args.row.now c.args.many = search rules in
    let there : c.args.many ≤ count_of (slice_cmp g.C.Ord.cmp) c.self.inside.rows.entries c.args.row.now = search rules in
    subst (IsCounted (slice_cmp g.C.Ord.cmp)) (sym left)
    (counted_taken (lists_total g.met.C.Ord.total) c.self.inside.rows.entries c.args.row.now c.args.many c.self.invariant c.requires.some there)

pub returns-then-count-many-clause-counted : goal.returns-then-count-many-clause-counted
returns-then-count-many-clause-counted g c = invariant_of-self g c

pub returns-clause-counted : goal.returns-clause-counted
returns-clause-counted g c = invariant_of-self-2 g c
