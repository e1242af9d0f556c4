use Rattle.std.proofs.Common.{◌+◌, ◌++◌, Bor, map, take}
use Rattle.dbn_value.specs.declared.term.Var.{Var}
use Rattle.dbn_formula.proofs.References.{viewed_more}
use Rattle.dbn_formula.proofs.Waiting.{needed_next}
use Rattle.dbn_formula.proofs.safety.unbound_of.Goals as goal

abbrev now : Bor Var → Var
now x = x.now

pub loop-var-preserved : goal.loop-var-preserved
loop-var-preserved c more =
    let vars = c.args.vars.now in
    let i = c.loop-var.var-index in
    needed_next c.loop-var.needed c.add_unbound.new.needed (map now (take i vars)) (map now (take (i + 1) vars)) c.var-item.result.now (c.args.bound.now ++ more)
    (c.in_ok-add_unbound.ensures more) (c.loop-var.invariant more) (viewed_more now vars i c.var-item.result c.loop-var-test.true c.var-item.is)
