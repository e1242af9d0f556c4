use Rattle.std.proofs.Common.{◌≡◌, sym, subst, ap, ◌∙◌}
use Rattle.dbn_formula.specs.Free.{occurrences}
use Rattle.dbn_formula.specs.Variables.{firsts}
use Rattle.dbn_plan.specs.Columns.{with_vars}
use Rattle.dbn_plan.specs.Making.{WithVars}
use Rattle.dbn_plan.proofs.MadeLaws.{with_vars_labels}
use Rattle.dbn_plan.proofs.labels.labels_behind.Goals as goal

pub returns : goal.returns
returns c =
    let is : c.in_ok-wanted.wanted ≡ with_vars c.args.labels.now (firsts (occurrences c.args.f.now)) = c.in_ok-wanted.ensures ∙ ap (with_vars c.args.labels.now) (c.as_slice.ensures ∙ c.in_ok-vars.ensures) in
    subst (WithVars (firsts (occurrences c.args.f.now)) c.args.labels.now) (sym is) (with_vars_labels c.args.labels.now (firsts (occurrences c.args.f.now)))
