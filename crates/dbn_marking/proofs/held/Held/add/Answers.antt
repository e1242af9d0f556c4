use Rattle.std.proofs.Common.{rules, arith, ◌≡◌, ◌+◌, subst, sym}
use Rattle.std.specs.Cmp.Lexicographic.{lists_total, slice_cmp}
use Rattle.dbn_marking.specs.Counts.{IsCounted}
use Rattle.dbn_marking.proofs.CountLaws.{counted_inserted}
use Rattle.dbn_marking.proofs.held.Held.add.Goals as goal

pub invariant_of-self : goal.invariant_of-self
invariant_of-self g c =
    counted_inserted (lists_total g.met.C.Ord.total) c.insert.result c.self.inside.rows.entries c.insert.new.self.entries c.args.row (c.count-count.result + c.args.many)
    c.insert.ensures.entries c.insert.ensures.err c.self.invariant (omega arith) (omega arith)

pub returns-then-count-many-gt-MAX_COUNT-clause-counted : goal.returns-then-count-many-gt-MAX_COUNT-clause-counted
returns-then-count-many-gt-MAX_COUNT-clause-counted g c =
    let all : c.args.self.now ≡ c.self.inside.rows.entries = search rules in
    subst (IsCounted (slice_cmp g.C.Ord.cmp)) (sym all) c.self.invariant

pub returns-clause-counted : goal.returns-clause-counted
returns-clause-counted g c =
    counted_inserted (lists_total g.met.C.Ord.total) c.insert.result c.self.inside.rows.entries c.insert.new.self.entries c.args.row (c.count-count.result + c.args.many)
    c.insert.ensures.entries c.insert.ensures.err c.self.invariant (omega arith) (omega arith)
