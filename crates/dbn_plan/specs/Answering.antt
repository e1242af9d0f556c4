-- What a compiled query is worth: in cells of any coder that has grown from this one, its rows are the answers.
use Rattle.std.specs.Prelude.{◌≡◌, ◌<◌, ◌≤◌, ◌+◌, ◌*◌, ℕ, ℤ, Bool, true, List, [], length, Option, map, slice_index_or}
use Rattle.std.specs.declared.cmp.Ordering.{Ordering}
use Rattle.dbn_value.specs.Members.{In}
use Rattle.dbn_value.specs.Coding.{Extends, IsCoding}
use Rattle.dbn_value.specs.declared.value.Value.{Value}
use Rattle.dbn_value.specs.declared.term.Var.{Var}
use Rattle.dbn_value.specs.declared.term.Term.{Term}
use Rattle.dbn_value.specs.declared.term.Term.TheVariants as term
use Rattle.dbn_formula.specs.Variables.{TypedVars}
use Rattle.dbn_formula.specs.Holds.{Instance}
use Rattle.dbn_formula.specs.Free.{occurrences}
use Rattle.dbn_formula.specs.Answers.{answers}
use Rattle.dbn_formula.specs.Typing.{Shapes}
use Rattle.dbn_formula.specs.Solutions.{HasShapes}
use Rattle.dbn_formula.specs.declared.formula.Formula.{Formula}
use Rattle.dbn_nodes.specs.declared.node.Node.{Node}
use Rattle.dbn_nodes.specs.declared.node.ColTest.{ColTest}
use Rattle.dbn_network.specs.Values.{val}
use Rattle.dbn_formula.specs.Answers.{constants}
use Rattle.dbn_formula.specs.Holds.{Env, Agree, holds_over}
use Rattle.dbn_formula.specs.Size.{size}
use Rattle.dbn_nodes.specs.Answering.{IsCounted}
use Rattle.dbn_network.specs.Holding.{IsDirect}
use Rattle.dbn_network.specs.States.{State}
use Rattle.dbn_plan.specs.Meaning.{Holds, IsRowOf, Means, vars_of}
use Rattle.dbn_plan.specs.Compiled.{World, Fit}
use Rattle.dbn_plan.specs.Making.{Grown, Placed, Shown, rate}
use Rattle.dbn_plan.specs.Columns.{tests_after}

abbrev pub var_labels : TypedVars → List Term
var_labels vars = map (λ x. term.Var x.0) vars

-- the node of a query: a look-up or two tell whether it has a row, and where there are no variables it counts its rows
pub record Ends {C : Type 0} (s : State C) (vars : TypedVars) (node : ℕ) : Type 0 where
  pub there : node < length s.nodes
  pub direct : (d : Node C) → IsDirect (slice_index_or s.nodes node d)
  pub counted : vars ≡ [] → (d : Node C) → IsCounted (slice_index_or s.nodes node d)

module _ {C : Type 0} where
  -- the rows of cells are those of the rows of values
  pub record SameRows (K : Value → Option C) (cells : List (List C)) (rows : List (List Value)) : Type 0 where
    pub there : (row : List Value) → In row rows → (r : List C) × IsRowOf K r row × In r cells
    pub back : (r : List C) → In r cells → (row : List Value) × IsRowOf K r row × In row rows

  -- the rows of a node, and what they say: the formula holds in their environments, and wherever it holds there is one that has the same values
  -- of its variables
  pub record Says (K : Value → Option C) (rows : List (List C)) (labels : List Term) (holds : Env → Bool) (vars : List Var) : Type 0 where
    pub passes : Env → Bool
    pub means : Means K rows labels passes
    pub there : (t : Env) → passes t ≡ true → holds t ≡ true
    pub back : (t : Env) → holds t ≡ true → (s : Env) × Agree vars s t × (passes s ≡ true)

module _ {C : Type 0} (R : C → C → Ordering) (int_of : C → Option ℤ) where
  abbrev pub AnswersAt : (Value → Option C) → Shapes → Formula → TypedVars → List (Node C) → ℕ → Type 0
  AnswersAt cell_of rels f vars nodes node =
      (K : Value → Option C) (feeds : List (List (List C))) (db : Instance) → Extends cell_of K → IsCoding R int_of K → Holds K (length rels) feeds db → HasShapes rels db
      → SameRows K (val R node nodes feeds) (answers f vars db)

  -- a node whose rows are the values of these variables where the formula holds
  pub record Planned (cell_of : Value → Option C) (form : Formula) (vars : TypedVars) (old new : State C) (node : ℕ) : Type 0 where
    pub grown : Grown old new
    pub few : length new.nodes ≤ length old.nodes + rate old.rels * size form + size form
    pub ends : Ends new vars node
    pub means : (w : World R int_of cell_of (constants form) old.rels) → Fit (constants form) old.rels form vars []
        → Means w.K (val R node new.nodes w.feeds) (var_labels vars) (λ t. holds_over w.dom w.db form t)

  -- the formula behind the unit, before its columns are put in order
  pub record Rooted (cell_of : Value → Option C) (consts : List Value) (form : Formula) (old new : State C) (node : ℕ) (labels : List Term) : Type 0 where
    pub grown : Grown old new
    pub few : length new.nodes + 2 ≤ length old.nodes + rate old.rels * size form
    pub placed : Placed new node labels
    pub columns : (x : Var) → In x (occurrences form) → In x (vars_of labels)
    pub says : (w : World R int_of cell_of consts old.rels) (scope : TypedVars) → Fit consts old.rels form scope [] → Says w.K (val R node new.nodes w.feeds) labels (λ t. holds_over w.dom w.db form t) (occurrences form)

  -- the columns of a formula behind the unit, put in the order of the query's variables
  pub record Finished (cell_of : Value → Option C) (consts : List Value) (form : Formula) (vars : TypedVars) (old new : State C) (node : ℕ) (wanted : List Term) : Type 0 where
    pub mid : State C
    pub inner : ℕ
    pub inner_labels : List Term
    pub rooted : Rooted cell_of consts form old mid inner inner_labels
    pub shown : Shown R int_of mid new inner inner_labels node wanted
    pub ends : Ends new vars node

-- the terms of an atom are all that is wanted, and ask nothing of the columns of its relation
pub record IsWhole {C : Type 0} (K : Value → Option C) (terms wanted : List Term) : Type 0 where
  pub same : terms ≡ wanted
  pub plain : ◌≡◌ {A = List (ColTest C)} (tests_after K [] terms) []
  pub some : wanted ≡ [] → ⊥
