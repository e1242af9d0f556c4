use Rattle.std.proofs.Common.{Bor, refl}
use Rattle.dbn_value.specs.declared.term.Var.{Var}
use Rattle.dbn_reader.proofs.UsedLaws.{has_none, has_more}
use Rattle.dbn_reader.proofs.binding.set_of.Goals as goal

abbrev now : Bor Var → Var
now x = x.now

pub loop-var-init : goal.loop-var-init
loop-var-init c = has_none now c.new-set.result.keys c.new-set.ensures.empty

pub loop-var-preserved : goal.loop-var-preserved
loop-var-preserved c =
    has_more now c.args.vars.now c.loop-var.var-index c.var-item.result c.loop-var.set.keys c.insert.new.self.keys _ c.loop-var-test.true c.var-item.is refl
    c.in_ok-insert.ensures.keys c.loop-var.invariant
