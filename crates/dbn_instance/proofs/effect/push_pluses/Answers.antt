use Rattle.std.proofs.Common.{rules, ◌≡◌, ◌++◌, ◌∷◌, [], map, not, true, false, subst, ap}
use Rattle.std.proofs.lemmas.List.Elements.{All-tail}
use Rattle.dbn_instance.specs.declared.fact.Fact.{Fact}
use Rattle.dbn_instance.specs.declared.fact.Change.TheVariants.{Plus}
use Rattle.dbn_instance.specs.Facts.{AreInRange, missing_facts, has_fact}
use Rattle.dbn_instance.proofs.FactLaws.{plus_more, plus_same, range_tail}
use Rattle.dbn_instance.proofs.effect.push_pluses.Goals as goal

pub loop-fact-preserved-in-Continue-1 : goal.loop-fact-preserved-in-Continue-1
loop-fact-preserved-in-Continue-1 g c =
    let next : c.loop-fact.fact-iterator ≡ c.in-Some.fact ∷ c.next.new.self = search rules in
    let missing : not (has_fact g.C.Ord.cmp c.args.instance.now c.in-Some.fact) ≡ true = search rules in
    let is : c.push.new.self ≡ c.loop-fact.changes ++ Plus c.in-Some.fact ∷ [] = search rules in
    record {
      so_far = plus_more g.C.Ord.cmp c.args.instance.now c.in-Some.fact c.next.new.self c.loop-fact.changes c.push.new.self _ missing is
          (subst (λ l. c.loop-fact.changes ++ map (λ f. Plus f) (missing_facts g.C.Ord.cmp l c.args.instance.now) ≡ c.args.changes.now ++ map (λ f. Plus f) (missing_facts g.C.Ord.cmp c.args.added.keys c.args.instance.now)) next c.loop-fact.invariant.so_far);
      within = range_tail g.C.Ord.cmp c.in-Some.fact c.next.new.self c.args.instance.now (subst (AreInRange c.args.instance.now) next c.loop-fact.invariant.within);
    }

pub loop-fact-preserved : goal.loop-fact-preserved
loop-fact-preserved g c =
    let next : c.loop-fact.fact-iterator ≡ c.in-Some.fact ∷ c.next.new.self = search rules in
    let there : not (has_fact g.C.Ord.cmp c.args.instance.now c.in-Some.fact) ≡ false = search rules in
    record {
      so_far = plus_same g.C.Ord.cmp c.args.instance.now c.in-Some.fact c.next.new.self c.loop-fact.changes _ there
          (subst (λ l. c.loop-fact.changes ++ map (λ f. Plus f) (missing_facts g.C.Ord.cmp l c.args.instance.now) ≡ c.args.changes.now ++ map (λ f. Plus f) (missing_facts g.C.Ord.cmp c.args.added.keys c.args.instance.now)) next c.loop-fact.invariant.so_far);
      within = range_tail g.C.Ord.cmp c.in-Some.fact c.next.new.self c.args.instance.now (subst (AreInRange c.args.instance.now) next c.loop-fact.invariant.within);
    }
