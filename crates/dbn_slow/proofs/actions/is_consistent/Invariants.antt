use Rattle.std.proofs.Common.{◌≡◌, drop, []}
use Rattle.std.specs.List.{list_any}
use Rattle.dbn_formula.specs.Answers.{holds}
use Rattle.dbn_net.specs.Sentences.{violations}
use Rattle.dbn_slow.proofs.actions.is_consistent.Given as goal

abbrev pub invariant-loop-violation : goal.invariant-loop-violation
invariant-loop-violation l = list_any (λ v. holds v.item l.instance []) (drop l.violation-index (violations l.net)) ≡ list_any (λ v. holds v.item l.instance []) (violations l.net)
