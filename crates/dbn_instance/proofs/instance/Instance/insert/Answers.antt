use Rattle.std.proofs.Common.{arith, ◌≡◌, slice_set, subst, sym}
use Rattle.std.proofs.lemmas.Grind.{common_steps}
use Rattle.dbn_instance.specs.Facts.{IsInstance, with_fact}
use Rattle.dbn_instance.proofs.FactLaws.{instance_with}
use Rattle.dbn_instance.proofs.instance.Instance.insert.Goals as goal

pub invariant_of-self-2 : goal.invariant_of-self-2
invariant_of-self-2 g c =
    let left : slice_set c.self.inside.relations.items c.args.fact.rel c.insert.new.self ≡ with_fact g.C.Ord.cmp c.self.inside.relations.items c.args.fact = grind (arith, common_steps) in
    subst (IsInstance g.C.Ord.cmp) (sym left) (instance_with g.met.C.Ord.total c.self.inside.relations.items c.args.fact c.self.invariant)
