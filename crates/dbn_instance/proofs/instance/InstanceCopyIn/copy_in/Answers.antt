use Rattle.std.proofs.Common.{rules, arith, ◌≡◌, subst, sym}
use Rattle.std.proofs.lemmas.Grind.{common_steps}
use Rattle.dbn_instance.specs.Facts.{IsInstance}
use Rattle.dbn_instance.proofs.instance.InstanceCopyIn.copy_in.Goals as goal

pub invariant_of-result : goal.invariant_of-result
invariant_of-result g c =
    let all : c.loop-relation.relations.items ≡ c.self.inside.relations.items = grind (arith, common_steps) in
    subst (IsInstance g.C.Ord.cmp) (sym all) c.self.invariant
