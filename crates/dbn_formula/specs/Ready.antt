-- What a value of a variable is in a scope, and what an instance and a domain must be for solutions to be found.
use Rattle.std.specs.Prelude.{◌≡◌, ℕ, true, List, [], ◌∷◌, Some, slice_index_or}
use Rattle.dbn_value.specs.Members.{In}
use Rattle.dbn_value.specs.Order.{value_type}
use Rattle.dbn_value.specs.declared.value.Value.{Value}
use Rattle.dbn_value.specs.declared.value.ColType.{ColType}
use Rattle.dbn_value.specs.declared.term.Var.{Var}
use Rattle.dbn_value.specs.declared.term.Term.{Term}
use Rattle.dbn_value.specs.declared.term.Term.TheVariants as term
use Rattle.dbn_formula.specs.Variables.{TypedVars, binds}
use Rattle.dbn_formula.specs.Holds.{Env, Domain, Instance, lookup}
use Rattle.dbn_formula.specs.Free.{occurrences}
use Rattle.dbn_formula.specs.Answers.{constants}
use Rattle.dbn_formula.specs.Typing.{Shapes, term_type, types_fit}
use Rattle.dbn_formula.specs.Distinct.{distinct}
use Rattle.dbn_formula.specs.Safe.{safe_in_order}
use Rattle.dbn_formula.specs.Solve.{is_bound}
use Rattle.dbn_formula.specs.declared.formula.Formula.{Formula}

-- the term has a type in the scope, and the value is in the domain of this type
pub record IsValued (dom : Domain) (scope : TypedVars) (a : Term) (v : Value) : Type 0 where
  pub type : ColType
  pub is : term_type scope a ≡ Some type
  pub within : In v (dom type)

-- so is each variable of the list, with its value in the environment
pub record AreValued (dom : Domain) (scope : TypedVars) (xs : List Var) (env : Env) : Type 0 where
  pub each : (x : Var) → In x xs → IsValued dom scope (term.Var x) (lookup env x)

-- the cells of a row are in the domains of the types of its columns
abbrev pub RowIn : Domain → List Value → List ColType → Type 0
RowIn dom [] [] = Unit {0}
RowIn dom [] (type ∷ shape) = ⊥
RowIn dom (v ∷ row) [] = ⊥
RowIn dom (v ∷ row) (type ∷ shape) = In v (dom type) × RowIn dom row shape

pub record RowsIn (dom : Domain) (rels : Shapes) (db : Instance) : Type 0 where
  pub each : (rel : ℕ) (row : List Value) → In row (slice_index_or db rel []) → RowIn dom row (slice_index_or rels rel [])

-- the values are in the domains of their types
pub record ValuesIn (dom : Domain) (values : List Value) : Type 0 where
  pub each : (v : Value) → In v values → In v (dom (value_type v))

-- the list has exactly the variables with an entry
pub record Covers (bound : List Var) (env : Env) : Type 0 where
  pub has : (x : Var) → In x bound → is_bound env x ≡ true
  pub all : (x : Var) → is_bound env x ≡ true → In x bound

-- the formula is safe from left to right for the bound variables, is well typed in the scope, and the environment is made for it
pub record Ready (dom : Domain) (rels : Shapes) (f : Formula) (scope : TypedVars) (bound : List Var) (env : Env) : Type 0 where
  pub safe_here : safe_in_order f bound ≡ true
  pub typed : types_fit rels f scope ≡ true
  pub once : distinct f ≡ true
  pub scoped : (x : Var) → In x (occurrences f) → binds scope x ≡ true
  pub constants_in : ValuesIn dom (constants f)
  pub covers : Covers bound env
  pub valued : AreValued dom scope bound env
