use Rattle.std.proofs.Common.{◌≡◌, true, sym, ◌∙◌, subst}
use Rattle.std.specs.List.{list_all}
use Rattle.dbn_formula.specs.Variables.{TypedVars, is_in}
use Rattle.dbn_plan.proofs.DeniedLaws.{each_occurs}
use Rattle.dbn_plan.proofs.referring.is_solved_alone.Goals as goal

pub returns : goal.returns
returns c e = record {
  alone = c.is_plain.ensures c.if-not-is_plain.false;
  each = each_occurs c.args.f.now c.args.vars.now c.as_slice.result.now (c.as_slice.ensures ∙ c.in_ok-own.ensures)
      (subst (λ (vs : TypedVars). list_all (λ v. is_in v.0 c.as_slice.result.now) vs ≡ true) c.as_slice-2.ensures (sym c.are_among.ensures ∙ e));
}
