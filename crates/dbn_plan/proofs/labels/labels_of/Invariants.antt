use Rattle.std.proofs.Common.{◌≡◌, take}
use Rattle.dbn_plan.specs.Answering.{var_labels}
use Rattle.dbn_plan.proofs.labels.labels_of.Given as goal

abbrev pub invariant-loop-var : goal.invariant-loop-var
invariant-loop-var l = l.labels ≡ var_labels (take l.var-index l.vars)
