use Rattle.std.proofs.Common.{sym, ◌∙◌}
use Rattle.std.proofs.lemmas.Result.{on_ok_weaker}
use Rattle.dbn_formula.proofs.Waiting.{same_needed, pushed_needed}
use Rattle.dbn_formula.proofs.safety.add_unbound.Goals as goal

pub returns-then-in_either : goal.returns-then-in_either
returns-then-in_either c more = same_needed c.args.needed.now c.args.bound.now more c.args.var.now (sym c.in_either.ensures ∙ c.if-in_either.true)

pub returns : goal.returns
returns c = on_ok_weaker c.push.result (λ e more. pushed_needed c.args.needed.now c.push.new.self c.args.bound.now more c.args.var.now e) c.push.ensures
