use Rattle.std.proofs.Common.{◌≡◌, subst}
use Rattle.std.specs.Prelude.{OnOk}
use Rattle.dbn_plan.proofs.ColumnLaws.{known_stays, new_comes}
use Rattle.dbn_plan.proofs.labels.push_new.Goals as goal

pub returns-in-Some : goal.returns-in-Some
returns-in-Some c = known_stays c.args.labels.now c.as_slice.result.now c.args.x.now _ c.as_slice.ensures c.in-Some.ensures

pub returns-in-None : goal.returns-in-None
returns-in-None c = subst (λ ys. OnOk c.push_label.result (c.push_label.new.labels ≡ ys)) (new_comes c.args.labels.now c.as_slice.result.now c.args.x.now c.as_slice.ensures c.in-None.ensures) c.push_label.ensures
