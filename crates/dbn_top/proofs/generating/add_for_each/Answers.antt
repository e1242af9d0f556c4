use Rattle.std.proofs.Common.{string_bytes}
use Rattle.dbn_top.proofs.Generators.{each_none, each_more}
use Rattle.dbn_top.proofs.generating.add_for_each.Goals as goal

pub loop-n-init : goal.loop-n-init
loop-n-init c = each_none (string_bytes c.args.text.now) c.args.front.now

pub loop-n-preserved : goal.loop-n-preserved
loop-n-preserved c = each_more (string_bytes c.args.text.now) (string_bytes c.loop-n.text) (string_bytes c.add_employee.new.text) c.args.front.now c.loop-n.n c.loop-n.invariant c.in_ok-add_employee.ensures
