use Rattle.std.proofs.Common.{rules, arith, ◌≡◌, ◌++◌, ◌∷◌, ◌∙◌, subst, sym}
use Rattle.std.proofs.lemmas.Grind.{common_steps}
use Rattle.std.specs.BTreeSet.{insert_key}
use Rattle.std.specs.List.Sorted.{IsStrictlySortedBy}
use Rattle.std.specs.Cmp.Lexicographic.{lists_total, slice_cmp}
use Rattle.dbn_instance.proofs.FactLaws.{copied_more}
use Rattle.dbn_instance.proofs.relation.RelationCopyIn.copy_in.Goals as goal

pub loop-row-preserved : goal.loop-row-preserved
loop-row-preserved g c =
    let ordered : IsStrictlySortedBy (slice_cmp g.C.Ord.cmp) c.args.self.now = search rules in
    let from : c.loop-row.rows.keys ++ c.in-Some.row.now ∷ c.next.new.self ≡ c.args.self.now = grind (arith, common_steps) in
    let is : c.insert.new.self.keys ≡ insert_key (slice_cmp g.C.Ord.cmp) c.loop-row.rows.keys c.in-Some.row.now = search rules in
    copied_more (lists_total g.met.C.Ord.total) c.loop-row.rows.keys c.next.new.self c.args.self.now c.insert.new.self.keys c.in-Some.row.now ordered from is
