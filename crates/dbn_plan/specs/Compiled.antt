-- What compiling a formula behind a node means, for every instance that the feeds may hold.
use Rattle.std.specs.Prelude.{◌≡◌, ◌<◌, ℕ, ℤ, Bool, true, ◌&&◌, List, [], length, Option, ◌⊎◌, slice_index_or}
use Rattle.std.specs.declared.cmp.Ordering.{Ordering}
use Rattle.dbn_value.specs.Members.{In}
use Rattle.dbn_value.specs.Coding.{Extends, IsCoding}
use Rattle.dbn_value.specs.Order.{value_type}
use Rattle.dbn_value.specs.declared.value.Value.{Value}
use Rattle.dbn_value.specs.declared.value.ColType.{ColType}
use Rattle.dbn_value.specs.declared.term.Var.{Var}
use Rattle.dbn_value.specs.declared.term.Term.{Term}
use Rattle.dbn_formula.specs.Variables.{TypedVars, binds}
use Rattle.dbn_formula.specs.Holds.{Env, Domain, Instance, holds_over}
use Rattle.dbn_formula.specs.Free.{occurrences}
use Rattle.dbn_formula.specs.Answers.{constants}
use Rattle.dbn_formula.specs.Typing.{Shapes, types_fit}
use Rattle.dbn_formula.specs.Distinct.{distinct}
use Rattle.dbn_formula.specs.Safe.{safe_in_order}
use Rattle.dbn_formula.specs.Ready.{AreValued, RowsIn, ValuesIn}
use Rattle.dbn_formula.specs.declared.formula.Formula.{Formula}
use Rattle.dbn_nodes.specs.declared.node.Node.{Node}
use Rattle.dbn_network.specs.Values.{val}
use Rattle.dbn_plan.specs.Meaning.{Holds, Means, LooksAt, vars_of}

-- a formula that is ready to be compiled where these variables are bound
pub record Fit (consts : List Value) (rels : Shapes) (f : Formula) (scope : TypedVars) (bound : List Var) : Type 0 where
  pub safe_here : safe_in_order f bound ≡ true
  pub typed : types_fit rels f scope ≡ true
  pub once : distinct f ≡ true
  pub scoped : (x : Var) → In x (occurrences f) → binds scope x ≡ true
  pub written : (v : Value) → In v (constants f) → In v consts

module _ {C : Type 0} (R : C → C → Ordering) (int_of : C → Option ℤ) where
  -- feeds that hold an instance in cells of a coder that has grown from this one, and the domain of its variables
  pub record World (cell_of : Value → Option C) (consts : List Value) (rels : Shapes) : Type 0 where
    pub K : Value → Option C
    pub feeds : List (List (List C))
    pub db : Instance
    pub dom : Domain
    pub later : Extends cell_of K
    pub coding : IsCoding R int_of K
    pub holds : Holds K (length rels) feeds db
    pub rows : RowsIn dom rels db
    pub consts_in : ValuesIn dom consts
    pub typed : (type : ColType) (v : Value) → In v (dom type) → value_type v ≡ type
    -- a value of the domain is written, or stands in a row of a relation that has a column of its type
    pub filled : (type : ColType) (v : Value) → In v (dom type)
        → ((w : Value) × In w consts × (value_type w ≡ type)) ⊎ ((rel : ℕ) × (rel < length rels) × In type (slice_index_or rels rel []) × (row : List Value) × In row (slice_index_or db rel []))

  module _ {cell_of : Value → Option C} {consts : List Value} {rels : Shapes} (w : World cell_of consts rels) where
    -- the rows of the node are those of the environments that pass p, whose values are in their domains
    pub record Stands (nodes : List (Node C)) (node : ℕ) (labels : List Term) (scope : TypedVars) (p : Env → Bool) : Type 0 where
      pub means : Means w.K (val R node nodes w.feeds) labels p
      pub looks : LooksAt (vars_of labels) p
      pub valued : (t : Env) → p t ≡ true → AreValued w.dom scope (vars_of labels) t

  -- the node behind: its rows are those that satisfy the formula besides
  abbrev pub Compiled : (Value → Option C) → List Value → Shapes → Formula → List (Node C) → ℕ → List Term → List (Node C) → ℕ → List Term → Type 0
  Compiled cell_of consts rels f nodes node labels after made made_labels =
      (w : World cell_of consts rels) (scope : TypedVars) (p : Env → Bool) → Fit consts rels f scope (vars_of labels) → Stands w nodes node labels scope p
      → Stands w after made made_labels scope (λ t. p t && holds_over w.dom w.db f t)
