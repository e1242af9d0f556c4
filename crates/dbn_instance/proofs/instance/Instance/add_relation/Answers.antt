use Rattle.std.proofs.Common.{rules, cond, ◌≡◌, ◌++◌, ◌∷◌, [], subst, sym, is_ok}
use Rattle.dbn_instance.specs.Facts.{IsInstance}
use Rattle.dbn_instance.proofs.FactLaws.{instance_either}
use Rattle.dbn_instance.proofs.instance.Instance.add_relation.Goals as goal

pub invariant_of-self-2 : goal.invariant_of-self-2
invariant_of-self-2 g c =
    let left : c.push.new.self.items ≡ cond (is_ok c.push.result) (c.self.inside.relations.items ++ [] ∷ []) c.self.inside.relations.items = search rules in
    subst (IsInstance g.C.Ord.cmp) (sym left) (instance_either g.C.Ord.cmp (is_ok c.push.result) c.self.inside.relations.items c.self.invariant)
