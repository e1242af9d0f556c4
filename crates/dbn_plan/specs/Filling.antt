-- Whether the domain of a type has a value: where the formula writes one, or some relation with such a column has a row.
use Rattle.std.specs.Prelude.{◌≤◌, ◌+◌, ◌*◌, ℕ, ℤ, zero, suc, Bool, false, not, List, [], ◌||◌, ◌&&◌, length, take, Option, slice_index_or}
use Rattle.std.specs.declared.cmp.Ordering.{Ordering}
use Rattle.std.specs.List.{list_any}
use Rattle.dbn_value.specs.Order.{value_type, type_eq}
use Rattle.dbn_value.specs.declared.value.Value.{Value}
use Rattle.dbn_value.specs.declared.value.ColType.{ColType}
use Rattle.dbn_formula.specs.Holds.{Instance}
use Rattle.dbn_formula.specs.Typing.{Shapes}
use Rattle.dbn_formula.specs.Solve.{is_empty}
use Rattle.dbn_network.specs.Values.{val}
use Rattle.dbn_network.specs.States.{State}
use Rattle.dbn_plan.specs.Meaning.{Means}
use Rattle.dbn_plan.specs.Compiled.{World}
use Rattle.dbn_plan.specs.Making.{Grown, Placed, columns}

-- the row has a column of the type
abbrev pub has_type : ColType → List ColType → Bool
has_type type shape = list_any (λ t. type_eq t type) shape

-- one of the values has the type
abbrev pub has_value : ColType → List Value → Bool
has_value type values = list_any (λ v. type_eq (value_type v) type) values

-- one of the first n relations has a column of the type, and a row
abbrev pub any_row : ColType → Shapes → Instance → ℕ → Bool
any_row type rels db zero = false
any_row type rels db (suc n) = any_row type rels db n || (has_type type (slice_index_or rels n []) && not (is_empty (slice_index_or db n [])))

module _ {C : Type 0} (R : C → C → Ordering) (int_of : C → Option ℤ) (cell_of : Value → Option C) (consts : List Value) where
  -- a node with the one row without cells where the relation has a row
  pub record RowedMade (rel : ℕ) (old new : State C) (made : ℕ) : Type 0 where
    pub grown : Grown old new
    pub few : length new.nodes ≤ length old.nodes + 2
    pub placed : Placed new made []
    pub means : (w : World R int_of cell_of consts old.rels) → Means w.K (val R made new.nodes w.feeds) [] (λ t. not (is_empty (slice_index_or w.db rel [])))

  -- a node with the one row without cells where one of the first n relations has a column of the type, and a row
  pub record AnyMade (type : ColType) (n : ℕ) (old new : State C) (made : ℕ) : Type 0 where
    pub grown : Grown old new
    pub few : length new.nodes ≤ length old.nodes + 1 + 3 * columns (take n old.rels)
    pub placed : Placed new made []
    pub means : (w : World R int_of cell_of consts old.rels) → Means w.K (val R made new.nodes w.feeds) [] (λ t. any_row type old.rels w.db n)

  -- a node with the one row without cells where the other one has it, or the relation has a column of the type, and a row
  pub record MoreMade (rel : ℕ) (type : ColType) (old new : State C) (before made : ℕ) : Type 0 where
    pub grown : Grown old new
    pub few : length new.nodes ≤ length old.nodes + 3 * length (slice_index_or old.rels rel [])
    pub placed : Placed new made []
    pub means : (w : World R int_of cell_of consts old.rels) (b : Bool) → Means w.K (val R before old.nodes w.feeds) [] (λ t. b)
        → Means w.K (val R made new.nodes w.feeds) [] (λ t. b || (has_type type (slice_index_or old.rels rel []) && not (is_empty (slice_index_or w.db rel []))))
