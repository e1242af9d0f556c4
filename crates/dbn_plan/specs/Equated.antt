-- An equation between a column of a node and one of another, as a pair of the join.
use Rattle.std.specs.Prelude.{◌≡◌, ◌≤◌, ◌+◌, ◌*◌, ℕ, ℤ, Bool, List, ◌++◌, length, Option, Some, map, ◌&&◌, ◌⊎◌, slice_get}
use Rattle.std.specs.declared.cmp.Ordering.{Ordering}
use Rattle.std.specs.List.{flat_map}
use Rattle.dbn_value.specs.Coding.{IsCoding}
use Rattle.dbn_value.specs.declared.value.Value.{Value}
use Rattle.dbn_value.specs.declared.term.Term.{Term}
use Rattle.dbn_value.specs.declared.term.Cmp.TheVariants as cmp
use Rattle.dbn_formula.specs.Holds.{Env}
use Rattle.dbn_formula.specs.Free.{occurrences}
use Rattle.dbn_formula.specs.Size.{total, size}
use Rattle.dbn_formula.specs.declared.formula.Formula.{Formula}
use Rattle.dbn_formula.specs.declared.formula.Formula.TheVariants.{And}
use Rattle.dbn_nodes.specs.Values.{cells_meet}
use Rattle.dbn_network.specs.Values.{val}
use Rattle.dbn_network.specs.States.{State}
use Rattle.dbn_plan.specs.Meaning.{Gives, Means, LooksAt, vars_of}
use Rattle.dbn_plan.specs.Compiled.{Compiled}
use Rattle.dbn_plan.specs.Making.{Grown, Placed, Labels, rate}

-- one side of the equation is the label of the one column, the other that of the other
pub record PairFor (labels others : List Term) (left right : Term) (pair : ℕ × ℕ) : Type 0 where
  pub known : Term
  pub other : Term
  pub at_known : slice_get labels pair.0 ≡ Some known
  pub at_other : slice_get others pair.1 ≡ Some other
  pub sides : ((left ≡ known) × (right ≡ other)) ⊎ ((left ≡ other) × (right ≡ known))

module _ {C : Type 0} (R : C → C → Ordering) (int_of : C → Option ℤ) where
  -- a node whose rows are those of two nodes that have the same values for the same variables, and in these two columns
  pub record JoinedBy (old new : State C) (node : ℕ) (labels : List Term) (other : ℕ) (others : List Term) (pair : ℕ × ℕ) (made : ℕ) (made_labels : List Term) : Type 0 where
    pub grown : Grown old new
    pub few : length new.nodes ≤ length old.nodes + 1
    pub placed : Placed new made made_labels
    pub labelled : made_labels ≡ labels ++ others
    pub means : (K : Value → Option C) (feeds : List (List (List C))) (p q r : Env → Bool) → IsCoding R int_of K
        → Means K (val R node old.nodes feeds) labels p → Means K (val R other old.nodes feeds) others q → LooksAt (vars_of labels) p → LooksAt (vars_of others) q
        → ((t : Env) (a b : List C) → Gives K t labels a → Gives K t others b → cells_meet R cmp.Eq (slice_get a pair.0) (slice_get b pair.1) ≡ r t)
        → Means K (val R made new.nodes feeds) made_labels (λ t. (p t && q t) && r t)

  -- a node whose rows are those of the context that satisfy all of these formulas besides
  pub record AllMade (cell_of : Value → Option C) (consts : List Value) (fs : List Formula) (old new : State C) (node : ℕ) (labels : List Term) (made : ℕ) (made_labels : List Term) : Type 0 where
    pub grown : Grown old new
    pub few : length new.nodes + 4 ≤ length old.nodes + rate old.rels * total (map size fs)
    pub placed : Placed new made made_labels
    pub labelled : Labels (flat_map occurrences fs) labels made_labels
    pub compiled : Compiled R int_of cell_of consts old.rels (And fs) old.nodes node labels new.nodes made made_labels
