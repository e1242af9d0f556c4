-- The bound variables of a transition, gathered one after the other.
use Rattle.std.specs.Prelude.{if◌then◌else◌, [], ◌∷◌, ◌++◌}
use Rattle.dbn_value.specs.declared.value.ColType.{ColType}
use Rattle.dbn_value.specs.declared.term.Var.{Var}
use Rattle.dbn_formula.specs.Variables.{TypedVars, binds}

-- at the end, unless the variable is there already
unfoldable pub with_typed : TypedVars → Var × ColType → TypedVars
with_typed vars x = if binds vars x.0 then vars else vars ++ x ∷ []

-- with each of them in turn
abbrev pub with_all : TypedVars → TypedVars → TypedVars
with_all vars [] = vars
with_all vars (x ∷ more) = with_all (with_typed vars x) more
