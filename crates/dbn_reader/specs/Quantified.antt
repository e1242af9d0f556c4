-- The types of quantified variables, looked up in a map.
use Rattle.std.specs.Prelude.{◌≡◌, List, Option, Some, None}
use Rattle.std.specs.Map.{lookup}
use Rattle.std.specs.Ordering.{is_eq}
use Rattle.dbn_value.specs.Variables.{var_cmp}
use Rattle.dbn_value.specs.declared.value.ColType.{ColType}
use Rattle.dbn_value.specs.declared.term.Var.{Var}
use Rattle.dbn_formula.specs.Variables.{TypedVars}
use Rattle.dbn_formula.specs.Typing.{type_under}

-- the type that was found, or else the one outside
abbrev pub found_or : Option ColType → Option ColType → Option ColType
found_or None outside = outside
found_or (Some found) outside = Some found

-- in the map each variable finds the type that it has inside a quantifier with these variables
abbrev pub FindsType : List (Var × ColType) → TypedVars → Type 0
FindsType latest vars = (x : Var) (outside : Option ColType) → type_under vars x outside ≡ found_or (lookup (λ y. is_eq (var_cmp x y)) latest) outside
