-- A set of variables beside a list of them.
use Rattle.std.specs.Prelude.{◌≡◌, List}
use Rattle.std.specs.List.{list_any}
use Rattle.std.specs.Ordering.{is_eq}
use Rattle.dbn_value.specs.Variables.{var_cmp}
use Rattle.dbn_value.specs.declared.term.Var.{Var}
use Rattle.dbn_formula.specs.Variables.{is_in}

-- the keys are the variables of the list, seen by a view
abbrev pub HasVars : {X : Type 0} → (X → Var) → List X → List Var → Type 0
HasVars view keys xs = (x : Var) → list_any (λ k. is_eq (var_cmp x (view k))) keys ≡ is_in x xs
