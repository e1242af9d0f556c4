-- What a formula means over an instance, for values of its variables. Quantified variables range over a domain.
use Rattle.std.specs.Prelude.{◌≡◌, pos, Bool, not, ◌||◌, if◌then◌else◌, List, [], ◌∷◌, map, slice_index_or}
use Rattle.std.specs.declared.cmp.Ordering.{Ordering}
use Rattle.std.specs.Ordering.{is_eq, is_lt, is_le, is_gt, is_ge, eq_by_cmp}
use Rattle.std.specs.List.{list_any, list_all}
use Rattle.dbn_value.specs.Members.{In}
use Rattle.dbn_value.specs.Order.{value_cmp, row_cmp}
pub use Rattle.dbn_value.specs.Order.{meets}
pub use Rattle.dbn_value.specs.Scope.{Env, lookup, value_of}
use Rattle.dbn_value.specs.declared.value.Value.{Value}
use Rattle.dbn_value.specs.declared.value.Value.TheVariants.{Int}
use Rattle.dbn_value.specs.declared.value.ColType.{ColType}
use Rattle.dbn_value.specs.declared.term.Var.{Var}
use Rattle.dbn_value.specs.declared.term.Term.{Term}
use Rattle.dbn_value.specs.declared.term.Term.TheVariants as term
use Rattle.dbn_value.specs.declared.term.Cmp.{Cmp}
use Rattle.dbn_value.specs.declared.term.Cmp.TheVariants as cmp
use Rattle.dbn_formula.specs.Variables.{TypedVars, var_eq}
use Rattle.dbn_formula.specs.declared.formula.Formula.{Formula}
use Rattle.dbn_formula.specs.declared.formula.Formula.TheOpen.{Formula-F}
use Rattle.dbn_formula.specs.declared.formula.Formula.TheOpen as layer
use Rattle.dbn_formula.specs.declared.formula.Formula.TheFolds.{fold-Formula}

-- the values over which a quantified variable of each type ranges
abbrev pub Domain : Type 0
Domain = ColType → List Value

-- the rows of each relation
abbrev pub Instance : Type 0
Instance = List (List (List Value))

-- two environments give each variable of the list the same value
abbrev pub Agree : List Var → Env → Env → Type 0
Agree xs s t = (x : Var) → In x xs → lookup s x ≡ lookup t x

abbrev pub row_eq : List Value → List Value → Bool
row_eq a b = eq_by_cmp row_cmp a b

-- the test passes for some choice of values for the variables
abbrev pub some_choice : Domain → TypedVars → (Env → Bool) → Env → Bool
some_choice dom [] test env = test env
some_choice dom (x ∷ vars) test env = list_any (λ v. some_choice dom vars test ((x.0, v) ∷ env)) (dom x.1)

-- it passes for every choice
abbrev pub every_choice : Domain → TypedVars → (Env → Bool) → Env → Bool
every_choice dom [] test env = test env
every_choice dom (x ∷ vars) test env = list_all (λ v. every_choice dom vars test ((x.0, v) ∷ env)) (dom x.1)

abbrev pub holds_step : Domain → Instance → Formula-F (Env → Bool) → Env → Bool
holds_step dom db (layer.Atom rel terms) env = list_any (λ row. row_eq row (map (value_of env) terms)) (slice_index_or db rel [])
holds_step dom db (layer.Test cmp left right) env = meets cmp (value_cmp (value_of env left) (value_of env right))
holds_step dom db (layer.And parts) env = list_all (λ part. part env) parts
holds_step dom db (layer.Or parts) env = list_any (λ part. part env) parts
holds_step dom db (layer.Not part) env = not (part env)
holds_step dom db (layer.Implies left right) env = not (left env) || right env
holds_step dom db (layer.Exists vars body) env = some_choice dom vars body env
holds_step dom db (layer.Forall vars body) env = every_choice dom vars body env

unfoldable pub holds_over : Domain → Instance → Formula → Env → Bool
holds_over dom db f env = fold-Formula (Env → Bool) (holds_step dom db) f env
