-- The answers of a query: the rows of values from the formula and the instance that satisfy it.
use Rattle.std.specs.Prelude.{Bool, List, [], ◌∷◌, ◌++◌, map}
use Rattle.std.specs.List.{filter, flat_map}
use Rattle.dbn_value.specs.Order.{value_cmp, value_type}
use Rattle.dbn_value.specs.Ascending.{ascending, rows_over}
use Rattle.dbn_value.specs.declared.value.Value.{Value}
use Rattle.dbn_value.specs.declared.term.Term.{Term}
use Rattle.dbn_value.specs.declared.term.Term.TheVariants as term
pub use Rattle.dbn_value.specs.Scope.{bind}
use Rattle.dbn_formula.specs.Variables.{TypedVars, type_eq}
use Rattle.dbn_formula.specs.Holds.{Env, Domain, Instance, holds_over}
use Rattle.dbn_formula.specs.declared.formula.Formula.{Formula}
use Rattle.dbn_formula.specs.declared.formula.Formula.TheOpen.{Formula-F}
use Rattle.dbn_formula.specs.declared.formula.Formula.TheOpen as layer
use Rattle.dbn_formula.specs.declared.formula.Formula.TheFolds.{fold-Formula}

abbrev pub constant_of : Term → List Value
constant_of (term.Var x) = []
constant_of (term.Const v) = v ∷ []

abbrev pub constants_step : Formula-F (List Value) → List Value
constants_step (layer.Atom rel terms) = flat_map constant_of terms
constants_step (layer.Test cmp left right) = constant_of left ++ constant_of right
constants_step (layer.And parts) = flat_map (λ part. part) parts
constants_step (layer.Or parts) = flat_map (λ part. part) parts
constants_step (layer.Not part) = part
constants_step (layer.Implies left right) = left ++ right
constants_step (layer.Exists vars body) = body
constants_step (layer.Forall vars body) = body

-- the values that are written in the formula, in reading order
unfoldable pub constants : Formula → List Value
constants f = fold-Formula (List Value) constants_step f

abbrev pub values_in : Instance → List Value
values_in db = flat_map (λ rows. flat_map (λ row. row) rows) db

-- the values of a type that occur in the instance or in the whole formula
abbrev pub domain : Formula → Instance → Domain
domain f db type = ascending value_cmp (filter (λ v. type_eq (value_type v) type) (values_in db ++ constants f))

-- each variable of the formula, quantified or not, ranges over the domain of the whole formula
abbrev pub holds : Formula → Instance → Env → Bool
holds f db env = holds_over (domain f db) db f env

-- the rows of values for the variables that satisfy the formula, in ascending order
abbrev pub answers : Formula → TypedVars → Instance → List (List Value)
answers f vars db = filter (λ row. holds f db (bind vars row [])) (rows_over (map (λ x. domain f db x.1) vars))
