-- A conjunction whose last part is denied. So a foreign key is denied, where that part is solved by itself.
use Rattle.std.specs.Prelude.{◌≡◌, ◌≤◌, ◌+◌, ◌⊎◌, ℕ, ℤ, Bool, true, not, ◌&&◌, List, [], ◌∷◌, ◌++◌, length, Option, Some, slice_get}
use Rattle.std.specs.declared.cmp.Ordering.{Ordering}
use Rattle.dbn_value.specs.Coding.{IsCoding}
use Rattle.dbn_value.specs.declared.value.Value.{Value}
use Rattle.dbn_value.specs.Members.{In}
use Rattle.dbn_value.specs.declared.term.Term.{Term}
use Rattle.dbn_value.specs.declared.term.Var.{Var}
use Rattle.dbn_formula.specs.Variables.{TypedVars, binds}
use Rattle.dbn_formula.specs.Free.{occurrences}
use Rattle.dbn_nodes.specs.declared.node.Node.TheVariants as node
use Rattle.dbn_formula.specs.Holds.{Env, Agree}
use Rattle.dbn_formula.specs.Safe.{safe_in_order}
use Rattle.dbn_formula.specs.declared.formula.Formula.{Formula}
use Rattle.dbn_formula.specs.declared.formula.Formula.TheVariants.{And, Not}
use Rattle.dbn_network.specs.Values.{val}
use Rattle.dbn_network.specs.States.{State}
use Rattle.dbn_plan.specs.Meaning.{Means, LooksAt, vars_of}
use Rattle.dbn_plan.specs.Making.{Grown, Placed, Made}

-- these parts hold, and the last one doesn't
abbrev pub lacking : List Formula → Formula → Formula
lacking front right = And (front ++ Not right ∷ [])

-- the formula is solved by itself, with a column for each of these variables
pub record IsSolved (f : Formula) (vars : TypedVars) : Type 0 where
  pub alone : safe_in_order f [] ≡ true
  pub each : (x : Var) → binds vars x ≡ true → In x (occurrences f)

-- a difference
abbrev pub IsDifference : {C : Type 0} → State C → ℕ → Type 0
IsDifference s i = (left right : ℕ) × (slice_get s.nodes i ≡ Some (node.Diff left right))

pub record IsLacking (body : Formula) (front : List Formula) (right : Formula) : Type 0 where
  pub is : body ≡ lacking front right
  pub alone : safe_in_order right [] ≡ true

-- a node over these labels: the rows that come from one node, and not from the other
pub record Difference {C : Type 0} (R : C → C → Ordering) (int_of : C → Option ℤ) (old new : State C) (left : ℕ) (left_labels : List Term) (right : ℕ) (right_labels : List Term) (made : ℕ) (wanted : List Term) : Type 0 where
  pub grown : Grown old new
  pub few : length new.nodes ≤ length old.nodes + 3
  pub placed : Placed new made wanted
  pub means : (K : Value → Option C) (feeds : List (List (List C))) (p q r : Env → Bool) → IsCoding R int_of K → Means K (val R left old.nodes feeds) left_labels p → Means K (val R right old.nodes feeds) right_labels r
      → ((t : Env) → p t ≡ true → q t ≡ true) → ((t : Env) → q t ≡ true → (s : Env) × Agree (vars_of wanted) s t × (p s ≡ true)) → LooksAt (vars_of wanted) r
      → Means K (val R made new.nodes feeds) wanted (λ t. q t && not (r t))

-- a part that is denied: by itself behind the unit, or behind the parts before it
abbrev pub DeniedMade : {C : Type 0} (R : C → C → Ordering) (int_of : C → Option ℤ) → (Value → Option C) → List Value → Formula → TypedVars → State C → State C → ℕ → List Term → ℕ → List Term → ℕ → List Term → Type 0
DeniedMade R int_of cell_of consts right vars old new unit unit_labels first first_labels made made_labels =
    (IsSolved right vars × Made R int_of cell_of consts right old new unit unit_labels made made_labels) ⊎ Made R int_of cell_of consts right old new first first_labels made made_labels
