-- Lists of variables.
use Rattle.std.specs.Prelude.{if◌then◌else◌, ◌++◌, Bool, true, false, not, List, [], ◌∷◌}
use Rattle.std.specs.List.{list_any, filter}
pub use Rattle.dbn_value.specs.Variables.{var_eq}
pub use Rattle.dbn_value.specs.Scope.{TypedVars}
pub use Rattle.dbn_value.specs.Order.{type_eq}
use Rattle.dbn_value.specs.declared.term.Var.{Var}
use Rattle.dbn_value.specs.declared.value.ColType.{ColType}
use Rattle.dbn_value.specs.declared.value.ColType.TheVariants as col

abbrev pub is_in : Var → List Var → Bool
is_in x xs = list_any (λ y. var_eq x y) xs

-- one of the typed variables is x
abbrev pub binds : TypedVars → Var → Bool
binds vars x = list_any (λ y. var_eq x y.0) vars

-- each once, in order of first occurrence
abbrev pub firsts : List Var → List Var
firsts [] = []
firsts (x ∷ xs) = x ∷ filter (λ y. not (var_eq x y)) (firsts xs)

-- at the end, unless it is there already
unfoldable pub with_first : List Var → Var → List Var
with_first xs x = if is_in x xs then xs else xs ++ x ∷ []
