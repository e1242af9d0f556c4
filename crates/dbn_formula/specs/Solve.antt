-- The solutions of a formula that extend an environment, found from left to right: an atom by the rows of its relation, an
-- equation by its known side. Each solution is an environment; the domain is asked for quantified variables that stay unbound.
use Rattle.std.specs.Prelude.{Bool, true, false, not, ◌||◌, if◌then◌else◌, List, [], ◌∷◌, slice_index_or}
use Rattle.std.specs.Ordering.{eq_by_cmp}
use Rattle.std.specs.List.{list_any, list_all, filter, flat_map}
use Rattle.dbn_value.specs.Order.{value_cmp}
use Rattle.dbn_value.specs.declared.value.Value.{Value}
use Rattle.dbn_value.specs.declared.term.Var.{Var}
use Rattle.dbn_value.specs.declared.term.Term.{Term}
use Rattle.dbn_value.specs.declared.term.Term.TheVariants as term
use Rattle.dbn_value.specs.declared.term.Cmp.{Cmp}
use Rattle.dbn_value.specs.declared.term.Cmp.TheVariants as cmp
use Rattle.dbn_formula.specs.Variables.{TypedVars, var_eq, binds}
use Rattle.dbn_formula.specs.Holds.{Env, Domain, Instance, lookup, value_of, meets}
use Rattle.dbn_formula.specs.declared.formula.Formula.{Formula}
use Rattle.dbn_formula.specs.declared.formula.Formula.TheOpen.{Formula-F}
use Rattle.dbn_formula.specs.declared.formula.Formula.TheOpen as layer
use Rattle.dbn_formula.specs.declared.formula.Formula.TheFolds.{fold-Formula}

abbrev pub value_eq : Value → Value → Bool
value_eq v w = eq_by_cmp value_cmp v w

abbrev pub is_empty : {A : Type 0} → List A → Bool
is_empty [] = true
is_empty (x ∷ xs) = false

-- the variable has an entry
abbrev pub is_bound : Env → Var → Bool
is_bound env x = list_any (λ entry. var_eq x entry.0) env

-- the environment where the test passes, and else none
abbrev pub only_if : Bool → Env → List Env
only_if passes env = if passes then env ∷ [] else []

-- a term gets this value: a variable without an entry takes it, another term must have it
abbrev pub term_is : Term → Value → Env → List Env
term_is (term.Var x) v env = if is_bound env x then only_if (value_eq (lookup env x) v) env else ((x, v) ∷ env) ∷ []
term_is (term.Const w) v env = only_if (value_eq w v) env

-- terms get the values of a row, one after the other
abbrev pub matched : List Term → List Value → Env → List Env
matched [] [] env = env ∷ []
matched [] (w ∷ row) env = []
matched (t ∷ terms) [] env = []
matched (t ∷ terms) (w ∷ row) env = flat_map (λ next. matched terms row next) (term_is t w env)

-- a constant, or a variable with an entry
abbrev pub has_value : Env → Term → Bool
has_value env (term.Var x) = is_bound env x
has_value env (term.Const v) = true

-- an equation gives the value of its known side to the other one; every other comparison is tested
abbrev pub tested : Cmp → Term → Term → Env → List Env
tested cmp.Eq left right env = if has_value env right then term_is left (value_of env right) env else term_is right (value_of env left) env
tested cmp.Ne left right env = only_if (meets cmp.Ne (value_cmp (value_of env left) (value_of env right))) env
tested cmp.Lt left right env = only_if (meets cmp.Lt (value_cmp (value_of env left) (value_of env right))) env
tested cmp.Le left right env = only_if (meets cmp.Le (value_cmp (value_of env left) (value_of env right))) env
tested cmp.Gt left right env = only_if (meets cmp.Gt (value_cmp (value_of env left) (value_of env right))) env
tested cmp.Ge left right env = only_if (meets cmp.Ge (value_cmp (value_of env left) (value_of env right))) env

-- each part extends the solutions of those before it
abbrev pub all_run : List (Env → List Env) → Env → List Env
all_run [] env = env ∷ []
all_run (part ∷ parts) env = flat_map (all_run parts) (part env)

-- each quantified variable has an entry, or some value of its type to take
abbrev pub choosable : Domain → TypedVars → Env → Bool
choosable dom vars env = list_all (λ x. is_bound env x.0 || not (is_empty (dom x.1))) vars

-- without the entries of quantified variables
abbrev pub dropped : TypedVars → Env → Env
dropped vars env = filter (λ entry. not (binds vars entry.0)) env

unfoldable pub chosen : Domain → TypedVars → Env → List Env
chosen dom vars env = only_if (choosable dom vars env) (dropped vars env)

-- only formulas in normal form have solutions
abbrev pub solve_step : Domain → Instance → Formula-F (Env → List Env) → Env → List Env
solve_step dom db (layer.Atom rel terms) env = flat_map (λ row. matched terms row env) (slice_index_or db rel [])
solve_step dom db (layer.Test cmp left right) env = tested cmp left right env
solve_step dom db (layer.And parts) env = all_run parts env
solve_step dom db (layer.Or parts) env = flat_map (λ part. part env) parts
solve_step dom db (layer.Not part) env = only_if (is_empty (part env)) env
solve_step dom db (layer.Implies left right) env = []
solve_step dom db (layer.Exists vars body) env = flat_map (chosen dom vars) (body env)
solve_step dom db (layer.Forall vars body) env = []

unfoldable pub solutions_over : Domain → Instance → Formula → Env → List Env
solutions_over dom db f env = fold-Formula (Env → List Env) (solve_step dom db) f env
