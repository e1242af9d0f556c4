use Rattle.std.proofs.Common.{◌≡◌, Option, drop}
use Rattle.std.specs.Map.{lookup}
use Rattle.std.specs.Ordering.{is_eq}
use Rattle.dbn_value.specs.Variables.{var_cmp}
use Rattle.dbn_value.specs.declared.value.ColType.{ColType}
use Rattle.dbn_value.specs.declared.term.Var.{Var}
use Rattle.dbn_formula.specs.Typing.{type_under}
use Rattle.dbn_reader.specs.Quantified.{found_or}
use Rattle.dbn_reader.proofs.quantified.latest_of.Given as goal

abbrev pub invariant-loop-entry : goal.invariant-loop-entry
invariant-loop-entry l =
    (x : Var) (outside : Option ColType) → type_under l.vars x outside
    ≡ type_under (drop l.entry-index l.vars) x (found_or (lookup (λ y. is_eq (var_cmp x y)) l.latest.entries) outside)
