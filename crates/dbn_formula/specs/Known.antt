-- A set of variables beside a list of them.
use Rattle.std.specs.Prelude.{◌≡◌, Bool, List}
use Rattle.std.specs.List.{list_any}
use Rattle.std.specs.Ordering.{is_eq}
use Rattle.dbn_value.specs.Variables.{var_cmp}
use Rattle.dbn_value.specs.declared.term.Var.{Var}
use Rattle.dbn_formula.specs.Variables.{TypedVars, is_in}

-- the keys are the variables of the list
abbrev pub Knows : List Var → List Var → Type 0
Knows keys xs = (x : Var) → list_any (λ y. is_eq (var_cmp x y)) keys ≡ is_in x xs

-- one of the quantifier's variables is bound
abbrev pub hides_bound : TypedVars → List Var → Bool
hides_bound vars bound = list_any (λ y. is_in y.0 bound) vars
