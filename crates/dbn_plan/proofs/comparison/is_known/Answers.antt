use Rattle.std.proofs.Common.{ap, ◌∙◌}
use Rattle.std.specs.Option.{is_some}
use Rattle.dbn_plan.proofs.ComparingLaws.{variable_known}
use Rattle.dbn_plan.proofs.comparison.is_known.Goals as goal

pub returns-in-Var : goal.returns-in-Var
returns-in-Var c = c.is_some.ensures ∙ ap is_some c.position_of.ensures ∙ variable_known c.args.labels.now c.args.labels.now c.in-Var.x c.args.term.now (λ i. c.args.labels.now) c.in-Var.is
