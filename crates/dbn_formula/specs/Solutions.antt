-- Which queries and sentences are accepted, and their solutions over an instance.
use Rattle.std.specs.Prelude.{◌≡◌, ℕ, true, List, [], ◌∷◌, map, None, slice_index_or}
use Rattle.dbn_value.specs.Members.{In}
use Rattle.dbn_value.specs.Order.{value_type}
use Rattle.dbn_value.specs.Shape.{HasShape as HasTypes}
use Rattle.dbn_value.specs.declared.value.Value.{Value}
use Rattle.dbn_value.specs.declared.value.ColType.{ColType}
use Rattle.dbn_value.specs.declared.term.Var.{Var}
use Rattle.dbn_formula.specs.Variables.{TypedVars, binds}
use Rattle.dbn_formula.specs.Holds.{Env, Instance, lookup}
use Rattle.dbn_formula.specs.Free.{occurrences}
use Rattle.dbn_formula.specs.Answers.{domain}
use Rattle.dbn_formula.specs.Typing.{Shapes, type_fault}
use Rattle.dbn_formula.specs.Normal.{normal}
use Rattle.dbn_formula.specs.Apart.{renamed}
use Rattle.dbn_formula.specs.Distinct.{distinct_vars}
use Rattle.dbn_formula.specs.Safe.{arranged, query_safe, sentence_safe}
use Rattle.dbn_formula.specs.Solve.{solutions_over}
use Rattle.dbn_formula.specs.declared.formula.Formula.{Formula}

-- the formula as it is solved: in normal form, renamed apart, with conjuncts in the order of the safety test
abbrev pub solvable : Formula → Formula
solvable f = arranged (renamed (normal f)) []

-- the solutions of a formula over an instance
abbrev pub solutions : Formula → Instance → List Env
solutions f db = solutions_over (domain f db) db (solvable f) []

-- the values of a row have the types of its columns
abbrev pub HasShape : List Value → List ColType → Type 0
HasShape row shape = HasTypes value_type row shape

-- the rows of each relation have its shape
pub record HasShapes (rels : Shapes) (db : Instance) : Type 0 where
  pub each : (rel : ℕ) (row : List Value) → In row (slice_index_or db rel []) → HasShape row (slice_index_or rels rel [])

-- an accepted query over relations of these shapes: well typed, each of its variables stands once and is free, and safe
pub record AcceptsQuery (rels : Shapes) (vars : TypedVars) (f : Formula) : Type 0 where
  pub typed : type_fault rels f vars ≡ None
  pub once : distinct_vars vars ≡ true
  pub all_free : (x : Var) → binds vars x ≡ true → In x (occurrences f)
  pub is_safe : query_safe f ≡ true

-- an accepted sentence: closed, well typed and safe
pub record AcceptsSentence (rels : Shapes) (f : Formula) : Type 0 where
  pub typed : type_fault rels f [] ≡ None
  pub is_safe : sentence_safe f ≡ true

-- the row of values that some solution gives the variables
abbrev pub IsSolution : Formula → TypedVars → Instance → List Value → Type 0
IsSolution f vars db row = (g : Env) × In g (solutions f db) × (row ≡ map (λ x. lookup g x.0) vars)
