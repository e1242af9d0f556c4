use Rattle.std.proofs.Common.{Bor, ◌≡◌, true, false, ap, sym, ◌∙◌, map}
use Rattle.dbn_value.specs.declared.term.Var.{Var}
use Rattle.dbn_formula.specs.Variables.{is_in}
use Rattle.dbn_formula.proofs.References.{kept_more}
use Rattle.dbn_formula.proofs.variables.add_unhidden.Goals.{then-not-has+in_ok-push, else-not-has}
use Rattle.dbn_formula.proofs.variables.add_unhidden.Goals as goal

abbrev now : Bor Var → Var
now x = x.now

pub loop-var-preserved : goal.loop-var-preserved
loop-var-preserved c =
    let var = c.var-item.result in
    let hides : c.has.result ≡ is_in var.now (map (λ x. x.0) c.args.vars.now) = c.has.ensures ∙ ap (is_in var.now) c.in_ok-hidden.ensures in
    elim c.if-not-has.branch [
      | then-not-has+in_ok-push w ↦
          kept_more now c.args.vars.now (map now c.args.out.now) c.loop-var.out c.if-not-has.out c.args.inner.now c.loop-var.var-index var false c.loop-var-test.true c.var-item.is
          (sym w.if-not-has.true ∙ hides) c.loop-var.invariant (w.out-is ∙ w.in_ok-push.ensures.ok)
      | else-not-has w ↦
          kept_more now c.args.vars.now (map now c.args.out.now) c.loop-var.out c.if-not-has.out c.args.inner.now c.loop-var.var-index var true c.loop-var-test.true c.var-item.is
          (sym w.if-not-has.false ∙ hides) c.loop-var.invariant w.out-is
    ]
