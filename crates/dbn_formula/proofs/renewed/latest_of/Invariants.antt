use Rattle.std.proofs.Common.{◌≡◌}
use Rattle.std.specs.Map.{lookup}
use Rattle.std.specs.Option.{unwrap_or}
use Rattle.std.specs.Ordering.{is_eq}
use Rattle.dbn_value.specs.Variables.{var_cmp}
use Rattle.dbn_value.specs.declared.term.Var.{Var}
use Rattle.dbn_formula.specs.Renewing.{renamed_under}
use Rattle.dbn_formula.proofs.renewed.latest_of.Given as goal

abbrev pub invariant-loop-old : goal.invariant-loop-old
invariant-loop-old l =
    (x outside : Var) → renamed_under l.vars l.made x outside
    ≡ renamed_under l.old-iterator.a.rest.now l.old-iterator.b.rest.now x (unwrap_or (lookup (λ y. is_eq (var_cmp x y)) l.latest.entries) outside)
