use Rattle.std.proofs.Common.{ap, sym, ◌∙◌, Bor}
use Rattle.dbn_value.specs.declared.term.Var.{Var}
use Rattle.dbn_formula.specs.Variables.{with_first}
use Rattle.dbn_formula.proofs.References.{firsts_viewed}
use Rattle.dbn_formula.proofs.variables.firsts.Goals as goal

abbrev now : Bor Var → Var
now x = x.now

pub loop-var-preserved : goal.loop-var-preserved
loop-var-preserved c =
    c.in_ok-add_first.ensures
    ∙ ap (λ xs. with_first xs c.var-item.result.now) c.loop-var.invariant
    ∙ sym (firsts_viewed now c.args.vars.now c.loop-var.var-index c.var-item.result c.loop-var-test.true c.var-item.is)
