-- Values of variables, and what a term stands for under them. One rule for formulas, patterns, arguments and guards.
use Rattle.std.specs.Prelude.{pos, if◌then◌else◌, List, [], ◌∷◌, Option, Some, None}
use Rattle.dbn_value.specs.Variables.{var_eq}
use Rattle.dbn_value.specs.declared.value.Value.{Value}
use Rattle.dbn_value.specs.declared.value.Value.TheVariants.{Int}
use Rattle.dbn_value.specs.declared.value.ColType.{ColType}
use Rattle.dbn_value.specs.declared.term.Var.{Var}
use Rattle.dbn_value.specs.declared.term.Term.{Term}
use Rattle.dbn_value.specs.declared.term.Term.TheVariants as term

abbrev pub TypedVars : Type 0
TypedVars = List (Var × ColType)

-- values of variables, the newest first: the first entry of a variable counts
abbrev pub Env : Type 0
Env = List (Var × Value)

-- a variable without an entry stands for 0; no formula whose variables are all bound asks for one
abbrev pub lookup : Env → Var → Value
lookup [] x = Int (pos 0)
lookup (entry ∷ env) x = if var_eq x entry.0 then entry.1 else lookup env x

abbrev pub value_of : Env → Term → Value
value_of env (term.Var x) = lookup env x
value_of env (term.Const v) = v

-- the variables with the values of a row, one after the other, the last one newest: where a variable stands twice, its
-- last value counts
abbrev pub bind : TypedVars → List Value → Env → Env
bind [] row env = env
bind (x ∷ vars) [] env = env
bind (x ∷ vars) (v ∷ row) env = bind vars row ((x.0, v) ∷ env)

-- what the first entry of the variable says, where it has one
abbrev pub entry_of : Env → Var → Option Value
entry_of [] x = None
entry_of (entry ∷ env) x = if var_eq x entry.0 then Some entry.1 else entry_of env x

-- what a term stands for, where it is a constant or a variable with an entry
abbrev pub known_value : Env → Term → Option Value
known_value env (term.Var x) = entry_of env x
known_value env (term.Const v) = Some v
