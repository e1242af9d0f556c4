use Rattle.std.proofs.Common.{refl, subst, sym}
use Rattle.dbn_net.specs.WellFormed.{Passes}
use Rattle.dbn_net.proofs.AddLaws.{kept_added, kept_same}
use Rattle.dbn_net.proofs.net.Net.add.Goals as goal

pub invariant_of-self : goal.invariant_of-self
invariant_of-self c = kept_same c.self.inside.decls c.push.new.self c.self.inside.tables c.self.inside.tables c.self.invariant c.in_err-push.ensures.err refl

pub invariant_of-self-in-Ok : goal.invariant_of-self-in-Ok
invariant_of-self-in-Ok c =
    kept_added c.self.inside.decls c.push.new.self c.self.inside.tables c.enter.new.self c.len-place.result c.in_ok-noted.noted c.args.decl c.self.invariant
    (subst (λ ds. Passes ds c.args.decl) (sym c.self.view_is) c.requires) c.len-place.ensures c.in_ok-noted.ensures.value c.in_ok-noted.ensures.small c.in_ok-push.ensures.ok c.in-Ok.ensures.ok

pub invariant_of-self-in-Err : goal.invariant_of-self-in-Err
invariant_of-self-in-Err c =
    kept_same c.self.inside.decls c.drop_last.new.decls c.self.inside.tables c.enter.new.self c.self.invariant
    (c.drop_last.ensures c.self.inside.decls c.args.decl c.in_ok-push.ensures.ok) c.in-Err.ensures.err
