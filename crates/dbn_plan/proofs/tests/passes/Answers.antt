use Rattle.std.proofs.Common.{◌≡◌, true, sym, ◌∙◌, subst}
use Rattle.std.specs.List.{list_all}
use Rattle.dbn_formula.specs.Variables.{TypedVars, is_in}
use Rattle.dbn_formula.specs.Distinct.{distinct_vars}
use Rattle.dbn_plan.proofs.DeniedLaws.{each_occurs}
use Rattle.dbn_plan.proofs.tests.passes.Goals as goal

pub returns : goal.returns
returns c e = record {
  once = subst (λ (vs : TypedVars). distinct_vars vs ≡ true) c.as_slice.ensures (sym c.in_ok-distinct_vars.ensures ∙ c.if-not-branch.false);
  each = each_occurs c.args.f.now c.args.vars.now c.as_slice-2.result.now (c.as_slice-2.ensures ∙ c.in_ok-names.ensures)
      (subst (λ (vs : TypedVars). list_all (λ v. is_in v.0 c.as_slice-2.result.now) vs ≡ true) c.as_slice-3.ensures (sym c.are_among.ensures ∙ e));
  is_safe = sym c.in_ok-accepts_query.ensures ∙ c.if-not-branch-2.false;
}
