use Rattle.std.proofs.Common.{◌≡◌, sym, subst, ap, ◌∙◌}
use Rattle.dbn_formula.specs.Free.{occurrences, unhidden}
use Rattle.dbn_formula.specs.Variables.{firsts}
use Rattle.dbn_plan.specs.Columns.{with_vars}
use Rattle.dbn_plan.specs.Making.{WithVars}
use Rattle.dbn_plan.proofs.MadeLaws.{with_vars_labels}
use Rattle.dbn_plan.proofs.labels.chosen_labels.Goals as goal

pub returns : goal.returns
returns c =
    let is : c.in_ok-wanted.wanted ≡ with_vars c.args.labels.now (unhidden c.args.vars.now (firsts (occurrences c.args.body.now))) =
    c.in_ok-wanted.ensures ∙ ap (with_vars c.args.labels.now) (c.as_slice-2.ensures ∙ c.in_ok-outer.ensures ∙ ap (unhidden c.args.vars.now) (c.as_slice.ensures ∙ c.in_ok-inner.ensures)) in
    subst (WithVars (unhidden c.args.vars.now (firsts (occurrences c.args.body.now))) c.args.labels.now) (sym is) (with_vars_labels c.args.labels.now (unhidden c.args.vars.now (firsts (occurrences c.args.body.now))))
