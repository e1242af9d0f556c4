-- The type of a variable inside a quantifier.
use Rattle.std.proofs.Common.{◌≡◌, [], ◌∷◌, refl}
use Rattle.dbn_value.specs.declared.term.Var.{Var}
use Rattle.dbn_formula.specs.Variables.{TypedVars}
use Rattle.dbn_formula.specs.Typing.{entered, type_in, type_under}

pub type_entered : (vars scope : TypedVars) (x : Var) → type_in (entered vars scope) x ≡ type_under vars x (type_in scope x)
type_entered [] scope x = refl
type_entered (entry ∷ vars) scope x = type_entered vars (entry ∷ scope) x
