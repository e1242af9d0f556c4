use Rattle.std.proofs.Common.{Some, ap, sym, ◌∙◌}
use Rattle.dbn_plan.proofs.AtomLaws.{position_is}
use Rattle.dbn_plan.proofs.equated.pair_at.Goals as goal

pub returns-in-Some-position_of : goal.returns-in-Some-position_of
returns-in-Some-position_of c = (
  position_is c.args.labels.now c.in-Var.x c.in-Some.column (sym c.position_of.ensures ∙ c.in-Some.is) ∙ ap Some (sym c.in-Var.is),
  position_is c.args.terms.now c.in-Var-other.y c.in-Some-position_of.place (sym c.position_of-in-Some.ensures ∙ c.in-Some-position_of.is) ∙ ap Some (sym c.in-Var-other.is),
)
