use Rattle.std.proofs.Common.{arith, ◌≡◌, slice_set, subst, sym}
use Rattle.std.proofs.lemmas.Grind.{common_steps}
use Rattle.dbn_instance.specs.Facts.{IsInstance, without_fact}
use Rattle.dbn_instance.proofs.FactLaws.{instance_without}
use Rattle.dbn_instance.proofs.instance.Instance.remove.Goals as goal

pub invariant_of-self : goal.invariant_of-self
invariant_of-self g c =
    let left : slice_set c.self.inside.relations.items c.args.fact.now.rel c.remove.new.self ≡ without_fact g.C.Ord.cmp c.self.inside.relations.items c.args.fact.now = grind (arith, common_steps) in
    subst (IsInstance g.C.Ord.cmp) (sym left) (instance_without g.met.C.Ord.total c.self.inside.relations.items c.args.fact.now c.self.invariant)
