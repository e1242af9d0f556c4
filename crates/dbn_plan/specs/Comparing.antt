-- What a step of compiling makes of a comparison. R is the order of cells.
use Rattle.std.specs.Prelude.{◌≡◌, ◌≤◌, ◌+◌, ℕ, ℤ, Bool, true, List, [], ◌∷◌, ◌++◌, length, Option, Some, ◌&&◌, slice_get}
use Rattle.std.specs.declared.cmp.Ordering.{Ordering}
use Rattle.dbn_value.specs.Coding.{Extends, IsCoding}
use Rattle.dbn_value.specs.Order.{value_cmp, value_type, meets}
use Rattle.dbn_value.specs.declared.value.Value.{Value}
use Rattle.dbn_value.specs.declared.value.ColType.TheVariants as col
use Rattle.dbn_value.specs.declared.term.Term.{Term}
use Rattle.dbn_value.specs.declared.term.Term.TheVariants as term
use Rattle.dbn_value.specs.declared.term.Cmp.{Cmp}
use Rattle.dbn_value.specs.declared.term.Cmp.TheVariants as cmp
use Rattle.dbn_formula.specs.Holds.{Env, value_of}
use Rattle.dbn_nodes.specs.declared.node.Added.{Added}
use Rattle.dbn_nodes.specs.declared.node.Added.TheVariants as added
use Rattle.dbn_network.specs.Values.{val}
use Rattle.dbn_network.specs.States.{State}
use Rattle.dbn_plan.specs.Meaning.{Means, LooksAt, vars_of}
use Rattle.dbn_plan.specs.Making.{Grown, Placed}

-- the comparison with its sides changed
abbrev pub turned : Cmp → Cmp
turned cmp.Eq = cmp.Eq
turned cmp.Ne = cmp.Ne
turned cmp.Lt = cmp.Gt
turned cmp.Le = cmp.Ge
turned cmp.Gt = cmp.Lt
turned cmp.Ge = cmp.Le

-- by order only ints are compared
abbrev pub Comparable : Cmp → Value → Value → Type 0
Comparable cmp.Eq v w = Unit {0}
Comparable cmp.Ne v w = Unit {0}
Comparable cmp.Lt v w = (value_type v ≡ col.Int) × (value_type w ≡ col.Int)
Comparable cmp.Le v w = (value_type v ≡ col.Int) × (value_type w ≡ col.Int)
Comparable cmp.Gt v w = (value_type v ≡ col.Int) × (value_type w ≡ col.Int)
Comparable cmp.Ge v w = (value_type v ≡ col.Int) × (value_type w ≡ col.Int)

-- the last column holds the value of the term
abbrev pub AddedFor : {C : Type 0} → (Value → Option C) → List Term → Term → Added C → Type 0
AddedFor cell_of labels by (added.Copied col) = slice_get labels col ≡ Some by
AddedFor cell_of labels by (added.Constant c) = (v : Value) × (by ≡ term.Const v) × (cell_of v ≡ Some c)

module _ {C : Type 0} (R : C → C → Ordering) (int_of : C → Option ℤ) where
  -- a node with one more column, whose value is that of a term which the labels know
  pub record Equated (cell_of : Value → Option C) (by new_one : Term) (old new : State C) (node : ℕ) (labels : List Term) (made : ℕ) (made_labels : List Term) : Type 0 where
    pub grown : Grown old new
    pub few : length new.nodes ≤ length old.nodes + 1
    pub placed : Placed new made made_labels
    pub labelled : made_labels ≡ labels ++ new_one ∷ []
    pub means : (K : Value → Option C) (feeds : List (List (List C))) (p q : Env → Bool) → Extends cell_of K → IsCoding R int_of K
        → Means K (val R node old.nodes feeds) labels p → LooksAt (vars_of labels) p
        → ((t : Env) → q t ≡ true → value_of t new_one ≡ value_of t by) → ((t : Env) → value_of t new_one ≡ value_of t by → q t ≡ true)
        → Means K (val R made new.nodes feeds) made_labels (λ t. p t && q t)

  -- a node with the rows of another one that meet the comparison
  pub record Compared (cell_of : Value → Option C) (c : Cmp) (left right : Term) (old new : State C) (node : ℕ) (labels : List Term) (made : ℕ) : Type 0 where
    pub grown : Grown old new
    pub few : length new.nodes ≤ length old.nodes + 1
    pub placed : Placed new made labels
    pub means : (K : Value → Option C) (feeds : List (List (List C))) (p q : Env → Bool) → Extends cell_of K → IsCoding R int_of K
        → Means K (val R node old.nodes feeds) labels p
        → ((t : Env) → p t ≡ true → Comparable c (value_of t left) (value_of t right))
        → ((t : Env) → q t ≡ meets c (value_cmp (value_of t left) (value_of t right)))
        → Means K (val R made new.nodes feeds) labels (λ t. p t && q t)
