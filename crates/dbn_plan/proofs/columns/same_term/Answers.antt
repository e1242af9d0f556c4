use Rattle.std.proofs.Common.{◌≡◌, sym, subst}
use Rattle.std.specs.Prelude.{◌↔◌, IsTrue}
use Rattle.dbn_plan.proofs.ColumnLaws.{term_eq_is}
use Rattle.dbn_plan.proofs.columns.same_term.Goals as goal

pub returns : goal.returns
returns c = subst (λ r. IsTrue r ↔ (c.args.a.now ≡ c.args.b.now)) (sym c.match_terms.ensures) (term_eq_is c.args.a.now c.args.b.now)
