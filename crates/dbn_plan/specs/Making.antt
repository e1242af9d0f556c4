-- What a step of compiling leaves of the network, and the node that it makes. R is the order of cells.
use Rattle.std.specs.Prelude.{◌≡◌, ◌<◌, ◌≤◌, ◌+◌, ◌*◌, ℕ, ℤ, Bool, true, false, List, ◌++◌, length, Option, Some, map, not, ◌||◌, ◌&&◌, slice_get, ◌⊎◌}
use Rattle.std.specs.declared.cmp.Ordering.{Ordering}
use Rattle.std.specs.Ordering.{nat_cmp}
use Rattle.std.specs.BTreeMap.{get}
use Rattle.std.specs.BTreeMap.{BTreeMap}
use Rattle.std.specs.List.{list_any, list_all}
use Rattle.dbn_value.specs.Members.{In}
use Rattle.dbn_value.specs.Coding.{IsCoding}
use Rattle.dbn_value.specs.declared.value.Value.{Value}
use Rattle.dbn_value.specs.declared.value.ColType.{ColType}
use Rattle.dbn_value.specs.declared.term.Var.{Var}
use Rattle.dbn_value.specs.declared.term.Term.{Term}
use Rattle.dbn_value.specs.declared.term.Term.TheVariants as term
use Rattle.dbn_formula.specs.Variables.{TypedVars, is_in}
use Rattle.dbn_formula.specs.Holds.{Env, Agree, holds_over}
use Rattle.dbn_formula.specs.Free.{occurrences}
use Rattle.dbn_formula.specs.Answers.{constants}
use Rattle.dbn_formula.specs.Typing.{Shapes, arity_fits}
use Rattle.dbn_formula.specs.Safe.{safe_in_order}
use Rattle.dbn_formula.specs.Size.{total, size}
use Rattle.dbn_formula.specs.Solve.{is_empty}
use Rattle.dbn_formula.specs.declared.formula.Formula.{Formula}
use Rattle.dbn_formula.specs.declared.formula.Formula.TheVariants.{Or}
use Rattle.dbn_formula.proofs.OrderOfParts.{Alike}
use Rattle.dbn_nodes.specs.declared.node.Node.{Node}
use Rattle.dbn_nodes.specs.declared.node.Node.TheVariants as node
use Rattle.dbn_nodes.specs.declared.node.ColTest.{ColTest}
use Rattle.dbn_nodes.specs.Values.{selected}
use Rattle.dbn_network.specs.Values.{val}
use Rattle.dbn_network.specs.States.{State, state_widths, width_at}
use Rattle.dbn_plan.specs.declared.sources.Sources.{Sources}
use Rattle.dbn_plan.specs.Meaning.{Means, LooksAt, vars_of}
use Rattle.dbn_plan.specs.Columns.{HaveCells}
use Rattle.dbn_plan.specs.Compiled.{Compiled, World, Stands, Fit}

-- how many columns all relations have together
abbrev pub columns : Shapes → ℕ
columns rels = total (map length rels)

-- how many nodes a formula takes at most for each unit of its size
unfoldable pub rate : Shapes → ℕ
rate rels = 3 * columns rels + 12

-- the columns with the old labels stay, and the variables of the new ones are those and these
pub record Labels (vars : List Var) (labels made_labels : List Term) : Type 0 where
  pub keeps : (a : Term) → In a labels → In a made_labels
  pub bound : Alike (vars_of made_labels) (vars_of labels ++ vars)

-- the formula can be compiled where these variables are bound: it is safe from left to right, each of its atoms has a term for each column,
-- and its constants have cells
pub record IsReady {C : Type 0} (cell_of : Value → Option C) (rels : Shapes) (bound : List Var) (f : Formula) : Type 0 where
  pub safe : safe_in_order f bound ≡ true
  pub arity : arity_fits rels f ≡ true
  pub cells : HaveCells cell_of (constants f)

module _ {C : Type 0} where
  -- live, and the relations are the first feeds
  pub record IsOpen (s : State C) : Type 0 where
    pub live : s.live ≡ true
    pub places : List (List ColType)
    pub relations_first : s.shapes ≡ s.rels ++ places

  -- only nodes were added
  pub record Grown (old new : State C) : Type 0 where
    pub live : new.live ≡ old.live
    pub rels : new.rels ≡ old.rels
    pub shapes : new.shapes ≡ old.shapes
    pub feeds : new.feeds ≡ old.feeds
    pub more : List (Node C)
    pub nodes : new.nodes ≡ old.nodes ++ more

  -- a node with as many columns as there are labels
  pub record Placed (s : State C) (node : ℕ) (labels : List Term) : Type 0 where
    pub there : node < length s.nodes
    pub wide : width_at (state_widths s) node ≡ length labels

  -- scans of relations, by their numbers
  abbrev pub AreScans : State C → BTreeMap ℕ ℕ → Type 0
  AreScans s scans = (rel i : ℕ) → get nat_cmp scans rel ≡ Some i → slice_get s.nodes i ≡ Some (node.Scan rel)

  -- the unit, and scans of relations
  pub record AreSources (s : State C) (sources : Sources) : Type 0 where
    pub unit : slice_get s.nodes sources.unit ≡ Some node.Unit
    pub scans : AreScans s sources.scans

  -- at most so many scans more
  pub record ScansMade (old new : State C) (scans : BTreeMap ℕ ℕ) (n : ℕ) : Type 0 where
    pub grown : Grown old new
    pub few : length new.nodes ≤ length old.nodes + n
    pub are : AreScans new scans

  -- a node that scans the relation
  pub record ScanMade (old new : State C) (rel made : ℕ) : Type 0 where
    pub grown : Grown old new
    pub few : length new.nodes ≤ length old.nodes + 1
    pub is : slice_get new.nodes made ≡ Some (node.Scan rel)

  -- the unit, and at most so many scans
  pub record Sourced (old new : State C) (sources : Sources) (n : ℕ) : Type 0 where
    pub grown : Grown old new
    pub few : length new.nodes ≤ length old.nodes + 1 + n
    pub are : AreSources new sources

  -- a projection
  abbrev pub IsProjection : State C → ℕ → Type 0
  IsProjection s i = (from : ℕ) × (cols : List ℕ) × (slice_get s.nodes i ≡ Some (node.Project from cols))

  -- a union
  abbrev pub IsUnion : State C → ℕ → Type 0
  IsUnion s i = (left right : ℕ) × (slice_get s.nodes i ≡ Some (node.Union left right))

module _ {C : Type 0} (R : C → C → Ordering) where
  -- a node with the rows of another one that meet the tests
  pub record Selected (old new : State C) (node : ℕ) (tests : List (ColTest C)) (made : ℕ) : Type 0 where
    pub grown : Grown old new
    pub few : length new.nodes ≤ length old.nodes + 1
    pub placed : (labels : List Term) → Placed old node labels → Placed new made labels
    pub rows : (feeds : List (List (List C))) → val R made new.nodes feeds ≡ selected R tests (val R node old.nodes feeds)

module _ {C : Type 0} (R : C → C → Ordering) (int_of : C → Option ℤ) where
  -- a node whose rows are those of two nodes that have the same values for the same variables
  pub record Joined (old new : State C) (node : ℕ) (labels : List Term) (other : ℕ) (others : List Term) (made : ℕ) (made_labels : List Term) : Type 0 where
    pub grown : Grown old new
    pub few : length new.nodes ≤ length old.nodes + 1
    pub placed : Placed new made made_labels
    pub labelled : made_labels ≡ labels ++ others
    pub means : (K : Value → Option C) (feeds : List (List (List C))) (p q : Env → Bool) → IsCoding R int_of K
        → Means K (val R node old.nodes feeds) labels p → Means K (val R other old.nodes feeds) others q → LooksAt (vars_of labels) p → LooksAt (vars_of others) q
        → Means K (val R made new.nodes feeds) made_labels (λ t. p t && q t)

  -- a node over these labels, each row of which comes from a row of the other node
  pub record Shown (old new : State C) (node : ℕ) (labels : List Term) (made : ℕ) (wanted : List Term) : Type 0 where
    pub grown : Grown old new
    pub few : length new.nodes ≤ length old.nodes + 1
    pub placed : Placed new made wanted
    pub means : (K : Value → Option C) (feeds : List (List (List C))) (p q : Env → Bool) → IsCoding R int_of K
        → Means K (val R node old.nodes feeds) labels p → ((t : Env) → p t ≡ true → q t ≡ true) → ((t : Env) → q t ≡ true → (s : Env) × Agree (vars_of wanted) s t × (p s ≡ true))
        → Means K (val R made new.nodes feeds) wanted q

  -- a node without rows
  pub record NoneMade (old new : State C) (node : ℕ) (labels : List Term) (made : ℕ) : Type 0 where
    pub grown : Grown old new
    pub few : length new.nodes ≤ length old.nodes + 1
    pub placed : Placed new made labels
    pub means : (K : Value → Option C) (feeds : List (List (List C))) (p q : Env → Bool) → IsCoding R int_of K
        → Means K (val R node old.nodes feeds) labels p → ((t : Env) → q t ≡ false) → Means K (val R made new.nodes feeds) labels q

  -- a node whose rows are those of the context that satisfy the formula besides
  pub record Made (cell_of : Value → Option C) (consts : List Value) (f : Formula) (old new : State C) (node : ℕ) (labels : List Term) (made : ℕ) (made_labels : List Term) : Type 0 where
    pub grown : Grown old new
    pub few : length new.nodes + 4 ≤ length old.nodes + rate old.rels * size f
    pub placed : Placed new made made_labels
    pub labelled : Labels (occurrences f) labels made_labels
    pub compiled : Compiled R int_of cell_of consts old.rels f old.nodes node labels new.nodes made made_labels

  -- a node that has the rows of another one, where the type of the variable has a value
  pub record FilledMade (cell_of : Value → Option C) (consts : List Value) (type : ColType) (old new : State C) (node : ℕ) (labels : List Term) (made : ℕ) : Type 0 where
    pub grown : Grown old new
    pub few : length new.nodes + 10 ≤ length old.nodes + rate old.rels
    pub placed : Placed new made labels
    pub means : (w : World R int_of cell_of consts old.rels) (q : Env → Bool) → LooksAt (vars_of labels) q → Means w.K (val R node old.nodes w.feeds) labels q
        → Means w.K (val R made new.nodes w.feeds) labels (λ t. q t && not (is_empty (w.dom type)))

  -- a node that has the rows of another one, where each quantified variable occurs or its type has a value
  pub record RoomMade (cell_of : Value → Option C) (consts : List Value) (vars : TypedVars) (f : Formula) (old new : State C) (node : ℕ) (labels : List Term) (made : ℕ) : Type 0 where
    pub grown : Grown old new
    pub few : length new.nodes + 10 * length vars ≤ length old.nodes + rate old.rels * length vars
    pub placed : Placed new made labels
    pub means : (w : World R int_of cell_of consts old.rels) (q : Env → Bool) → LooksAt (vars_of labels) q → Means w.K (val R node old.nodes w.feeds) labels q
        → Means w.K (val R made new.nodes w.feeds) labels (λ t. q t && list_all (λ y. is_in y.0 (occurrences f) || not (is_empty (w.dom y.1))) vars)

  -- a node over these labels whose rows satisfy one of the formulas besides
  pub record SomeMade (cell_of : Value → Option C) (consts : List Value) (all fs : List Formula) (old new : State C) (node : ℕ) (labels : List Term) (made : ℕ) (wanted : List Term) : Type 0 where
    pub grown : Grown old new
    pub few : length new.nodes + 3 ≤ length old.nodes + rate old.rels * total (map size fs)
    pub placed : Placed new made wanted
    pub means : (w : World R int_of cell_of consts old.rels) (scope : TypedVars) (p : Env → Bool) → Fit consts old.rels (Or all) scope (vars_of labels)
        → Stands R int_of w old.nodes node labels scope p → Means w.K (val R made new.nodes w.feeds) wanted (λ t. p t && list_any (λ f. holds_over w.dom w.db f t) fs)

-- the labels of before, and those of these variables
pub record WithVars (vars : List Var) (labels wanted : List Term) : Type 0 where
  pub labelled : Labels vars labels wanted
  pub only : (a : Term) → In a wanted → In a labels ⊎ ((x : Var) × (a ≡ term.Var x) × In x vars)
