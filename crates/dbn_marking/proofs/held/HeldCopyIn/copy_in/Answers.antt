use Rattle.std.proofs.Common.{rules, arith, ◌≡◌, ◌++◌, ◌∷◌, ◌∙◌, subst, sym}
use Rattle.std.proofs.lemmas.Grind.{common_steps}
use Rattle.std.specs.BTreeMap.{insert_entry}
use Rattle.std.specs.Cmp.Lexicographic.{lists_total, slice_cmp}
use Rattle.dbn_marking.specs.Counts.{IsCounted}
use Rattle.dbn_marking.proofs.CountLaws.{copied_more}
use Rattle.dbn_marking.proofs.held.HeldCopyIn.copy_in.Goals as goal

pub loop-row-preserved : goal.loop-row-preserved
loop-row-preserved g c =
    let all : c.args.self.now ≡ c.self.inside.rows.entries = search rules in
    let from : c.loop-row.rows.entries ++ (c.in-Some.row.now, c.in-Some.count.now) ∷ c.next.new.self ≡ c.self.inside.rows.entries = grind (arith, common_steps) in
    let is : c.insert.new.self.entries ≡ insert_entry (slice_cmp g.C.Ord.cmp) c.loop-row.rows.entries c.in-Some.row.now c.in-Some.count.now = search rules in
    copied_more (lists_total g.met.C.Ord.total) c.loop-row.rows.entries c.next.new.self c.self.inside.rows.entries c.insert.new.self.entries c.in-Some.row.now c.in-Some.count.now
    c.self.invariant.ascends from is
    ∙ sym all

pub invariant_of-result : goal.invariant_of-result
invariant_of-result g c =
    let all : c.loop-row.rows.entries ≡ c.self.inside.rows.entries = search rules in
    subst (IsCounted (slice_cmp g.C.Ord.cmp)) (sym all) c.self.invariant
