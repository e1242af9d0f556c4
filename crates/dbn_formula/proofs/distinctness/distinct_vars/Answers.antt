use Rattle.std.proofs.Common.{Bor, refl, sym, ◌∙◌}
use Rattle.std.proofs.lemmas.Bool.{not-true}
use Rattle.dbn_value.specs.declared.term.Var.{Var}
use Rattle.dbn_formula.specs.Distinct.{distinct_vars}
use Rattle.dbn_formula.proofs.SeenLaws.{seen_start, seen_step}
use Rattle.dbn_formula.proofs.distinctness.distinct_vars.Goals as goal

pub loop-var-init : goal.loop-var-init
loop-var-init c = seen_start (λ (x : Bor Var). x.now) c.args.vars.now c.new-seen.result.keys c.new-seen.ensures.empty

pub loop-var-preserved : goal.loop-var-preserved
loop-var-preserved c =
    seen_step (λ (x : Bor Var). x.now) c.args.vars.now c.loop-var.var-index c.var-item.result c.loop-var.seen.keys c.insert.new.self.keys _ (distinct_vars c.args.vars.now)
    c.loop-var-test.true c.var-item.is refl (not-true _ (sym c.in_ok-insert.ensures.added ∙ c.if-not-branch.false)) c.in_ok-insert.ensures.keys c.loop-var.invariant
